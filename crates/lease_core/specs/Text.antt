-- The text of the answers.
use Rattle.std.specs.Prelude.{ℕ, List, ◌++◌, codes}
use Rattle.std.specs.Fmt.{decimal}
use Rattle.std.specs.List.{flat_map}
use Rattle.lease_core.specs.declared.lease_lines.LeaseLine.{LeaseLine}
use Rattle.lease_core.specs.declared.answering.LeaseAnswer.{LeaseAnswer}
use Rattle.lease_core.specs.declared.answering.LeaseAnswer.TheVariants as told
use Rattle.lease_core.specs.declared.answering.LeaseRefusal.{LeaseRefusal}
use Rattle.lease_core.specs.declared.answering.LeaseRefusal.TheVariants as refusal
use Rattle.lease_core.specs.Terms.{Agreed}
use Rattle.lease_core.specs.Run.{answers}

abbrev pub refusal_text : LeaseRefusal → List ℕ
refusal_text (refusal.Unknown client) = codes "refused unknown " ++ decimal client
refusal_text refusal.Clocks = codes "refused clocks"
refusal_text (refusal.Ask ask) = codes "refused ask " ++ decimal ask
refusal_text (refusal.Grant ask) = codes "refused grant " ++ decimal ask
refusal_text (refusal.Fenced client) = codes "refused fenced " ++ decimal client

-- an answer, without its line feed
abbrev pub words_text : LeaseAnswer → List ℕ
words_text (told.Asked client ask) = codes "asked " ++ decimal client ++ codes " " ++ decimal ask
words_text (told.Granted client ask expiry) = codes "granted " ++ decimal client ++ codes " " ++ decimal ask ++ codes " " ++ decimal expiry
words_text (told.Taken client ask until) = codes "taken " ++ decimal client ++ codes " " ++ decimal ask ++ codes " " ++ decimal until
words_text (told.Lawful client) = codes "lawful " ++ decimal client
words_text (told.Unlawful client) = codes "unlawful " ++ decimal client
words_text (told.Fenced client) = codes "fenced " ++ decimal client
words_text (told.Early client expiry) = codes "early " ++ decimal client ++ codes " " ++ decimal expiry
words_text (told.Refused why) = refusal_text why
words_text told.End = codes "end"

-- an answer with its line feed
abbrev pub answer_text : LeaseAnswer → List ℕ
answer_text answer = words_text answer ++ codes "\n"

-- the text of the answers
abbrev pub text_of : List LeaseAnswer → List ℕ
text_of answers = flat_map answer_text answers

-- the text of a run over these lines: the answer to each, and `end`
abbrev pub run_text : Agreed → List LeaseLine → List ℕ
run_text terms lines = text_of (answers terms lines)
