-- What a text means as a script, as a table of the forms of lines.
use Rattle.std.specs.Prelude.{◌≡◌, ℕ, ◌≤◌, true, false, not, List, [], ◌∷◌, codes, Some, map}
use Rattle.std.specs.List.{filter, list_any}
use Rattle.text_lines.specs.Lines.{has_bad_byte, lines_of}
use Rattle.text_lines.specs.Number.{number_of}
use Rattle.text_lines.specs.Words.{is_skipped, words_of}
use Rattle.script_text.specs.ScriptForm.{Plan}
use Rattle.script_text.specs.ShapeForm.{IsWithin}
use Rattle.script_text.specs.WordValue.{bytes_of, word_of}
use Rattle.script_text.specs.declared.scripts.CallText.{CallText}
use Rattle.script_text.specs.declared.scripts.CallText.TheVariants as call
use Rattle.script_text.specs.declared.scripts.Line.{Line}
use Rattle.script_text.specs.declared.scripts.Line.TheVariants as line
use Rattle.script_text.specs.declared.scripts.Shape.{Shape}

-- what a word of a line stands for
pub data Part : Type 0 where
  fixed : List ℕ → Part
  number : ℕ → Part
  bytes : List ℕ → Part
  word : ℕ → Part

-- the form of a call, from its name on
abbrev pub call_form : ℕ → CallText → List Part
call_form client (call.Put key value) = fixed (codes "call") ∷ number client ∷ fixed (codes "put") ∷ bytes key ∷ bytes value ∷ []
call_form client (call.Get key) = fixed (codes "call") ∷ number client ∷ fixed (codes "get") ∷ bytes key ∷ []
call_form client (call.Delete key) = fixed (codes "call") ∷ number client ∷ fixed (codes "delete") ∷ bytes key ∷ []

-- the form of a line
abbrev pub form : Line → List Part
form line.Register = fixed (codes "register") ∷ []
form (line.Put client key value) = fixed (codes "put") ∷ number client ∷ bytes key ∷ bytes value ∷ []
form (line.Get client key) = fixed (codes "get") ∷ number client ∷ bytes key ∷ []
form (line.Delete client key) = fixed (codes "delete") ∷ number client ∷ bytes key ∷ []
form (line.Call client call) = call_form client call
form (line.Step client count) = fixed (codes "step") ∷ number client ∷ number count ∷ []
form (line.Go client) = fixed (codes "go") ∷ number client ∷ []
form (line.Late client) = fixed (codes "late") ∷ number client ∷ []
form (line.Stop client) = fixed (codes "stop") ∷ number client ∷ []
form (line.Lose node) = fixed (codes "lose") ∷ number node ∷ []
form line.Settle = fixed (codes "settle") ∷ []
form (line.Recover client) = fixed (codes "recover") ∷ number client ∷ []
form line.TaskSettle = fixed (codes "task") ∷ fixed (codes "settle") ∷ []
form (line.TaskRecover client) = fixed (codes "task") ∷ fixed (codes "recover") ∷ number client ∷ []
form (line.Work count) = fixed (codes "work") ∷ number count ∷ []
form (line.Verbs true) = fixed (codes "verbs") ∷ fixed (codes "on") ∷ []
form (line.Verbs false) = fixed (codes "verbs") ∷ fixed (codes "off") ∷ []
form line.Dump = fixed (codes "dump") ∷ []
form line.Count = fixed (codes "count") ∷ []
form line.History = fixed (codes "history") ∷ []
form (line.Fill node value) = fixed (codes "fill") ∷ number node ∷ word value ∷ []
form (line.Join node) = fixed (codes "join") ∷ number node ∷ []
form (line.TaskJoin node) = fixed (codes "task") ∷ fixed (codes "join") ∷ number node ∷ []

-- the form of a shape line
abbrev pub shape_form : Shape → List Part
shape_form shape =
    fixed (codes "shape") ∷ number shape.nodes ∷ number shape.replicas ∷ number shape.regions ∷ number shape.blocks
    ∷ number shape.groups ∷ number shape.clients ∷ number shape.calls ∷ []

-- how many verbs a line takes: at least 1
abbrev pub IsCounted : Line → Type 0
IsCounted (line.Step client count) = 1 ≤ count
IsCounted (line.Work count) = 1 ≤ count
IsCounted line = Unit {0}

-- a word that stands for this
abbrev pub StandsFor : List ℕ → Part → Type 0
StandsFor text (fixed name) = text ≡ name
StandsFor text (number value) = number_of text ≡ Some value
StandsFor text (bytes value) = bytes_of text ≡ Some value
StandsFor text (word value) = word_of text ≡ Some value

-- words that stand for these, one each
abbrev pub StandFor : List (List ℕ) → List Part → Type 0
StandFor [] [] = Unit {0}
StandFor [] (part ∷ parts) = ⊥
StandFor (text ∷ texts) [] = ⊥
StandFor (text ∷ texts) (part ∷ parts) = StandsFor text part × StandFor texts parts

-- the words of a line that mean it
abbrev pub MeansLine : List (List ℕ) → Line → Type 0
MeansLine words line = StandFor words (form line) × IsCounted line

-- lines that mean these, one each
abbrev pub MeanLines : List (List (List ℕ)) → List Line → Type 0
MeanLines [] [] = Unit {0}
MeanLines [] (line ∷ lines) = ⊥
MeanLines (words ∷ texts) [] = ⊥
MeanLines (words ∷ texts) (line ∷ lines) = MeansLine words line × MeanLines texts lines

-- the words of each line that is not skipped
abbrev pub kept_words : List (List ℕ) → List (List (List ℕ))
kept_words texts = filter (λ words. not (is_skipped words)) (map words_of texts)

-- a text means a script: no byte is bad, and its first line that is not skipped is the shape line, the others the lines
pub record Means (text : List ℕ) (plan : Plan) : Type 0 where
  pub clean : list_any has_bad_byte (lines_of text) ≡ false
  pub first : List (List ℕ)
  pub others : List (List (List ℕ))
  pub kept : kept_words (lines_of text) ≡ first ∷ others
  pub shape : StandFor first (shape_form plan.shape)
  pub within : IsWithin plan.shape
  pub lines : MeanLines others plan.lines
