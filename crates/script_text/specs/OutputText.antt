-- The text of the output, line by line.
use Rattle.std.specs.Prelude.{List, [], ◌∷◌, ◌++◌, ℕ, Bool, true, false, ◌&&◌, codes, length, map, nat_lt}
use Rattle.std.specs.List.{flat_map}
use Rattle.script_text.specs.OutputPart.{line_parts, part_text}
use Rattle.script_text.specs.Shown.{is_shown_as_is}
use Rattle.script_text.specs.declared.out_lines.OutLine.{OutLine}
use Rattle.script_text.specs.declared.out_lines.OutLine.TheVariants as line
use Rattle.script_text.specs.declared.out_lines.ReplyText.{ReplyText}
use Rattle.script_text.specs.declared.out_lines.ReplyText.TheVariants.{Value}
use Rattle.script_text.specs.declared.scripts.CallText.{CallText}
use Rattle.script_text.specs.declared.scripts.CallText.TheVariants.{Put, Get, Delete}

-- the words of a line
abbrev pub line_words : OutLine → List (List ℕ)
line_words out = map part_text (line_parts out)

-- words, each with a blank before it
abbrev pub spaced : List (List ℕ) → List ℕ
spaced [] = []
spaced (word ∷ words) = codes " " ++ word ++ spaced words

-- words with single blanks between them
abbrev pub joined : List (List ℕ) → List ℕ
joined [] = []
joined (word ∷ words) = word ++ spaced words

-- a line with its line feed
abbrev pub line_text : OutLine → List ℕ
line_text out = joined (line_words out) ++ codes "\n"

-- whether a line is that of a verb
abbrev pub is_verb : OutLine → Bool
is_verb (line.VerbRead _ _ _ _) = true
is_verb (line.VerbWrite _ _ _ _ _) = true
is_verb (line.VerbSwap _ _ _ _ _ _) = true
is_verb (line.VerbAdd _ _ _ _ _) = true
is_verb _ = false

-- whether bytes are few, at most 16, and printed as they are
abbrev pub is_plain : List ℕ → Bool
is_plain bytes = nat_lt (length bytes) 17 && is_shown_as_is bytes

abbrev pub is_plain_call : CallText → Bool
is_plain_call (Put key value) = is_plain key && is_plain value
is_plain_call (Get key) = is_plain key
is_plain_call (Delete key) = is_plain key

abbrev pub is_plain_reply : ReplyText → Bool
is_plain_reply (Value value) = is_plain value
is_plain_reply _ = true

-- whether a line is of a call, of its end, of an entry or of a word, and all bytes in it are few and printed as they are
abbrev pub is_short : OutLine → Bool
is_short (line.Called _ _ call) = is_plain_call call
is_short (line.Ended _ _ reply) = is_plain_reply reply
is_short (line.Entry _ _ call reply _) = is_plain_call call && is_plain_reply reply
is_short (line.Word _ _ _) = true
is_short _ = false

-- the text of the lines
abbrev pub text_of : List OutLine → List ℕ
text_of lines = flat_map line_text lines
