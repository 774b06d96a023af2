-- What is due at each place of an output line, and what a reader of its words has met so far.
use Rattle.std.specs.Prelude.{ℕ, nat_lt, if◌then◌else◌, List, [], ◌∷◌, codes, Option, Some, None, bytes_eq}
use Rattle.text_lines.specs.Number.{number_of}
use Rattle.script_text.specs.WordValue.{bytes_of, word_of}
use Rattle.script_text.specs.declared.faults.BadKind.{BadKind}
use Rattle.script_text.specs.declared.faults.BadKind.TheVariants as kind

pub data Place : Type 0 where
  NumberDue : Place
  -- a number or `m`
  ActorDue : Place
  BytesDue : Place
  -- 16 digits
  WordDue : Place
  -- 16 digits or `lost`
  AnswerDue : Place
  -- this word
  Exactly : List ℕ → Place
  -- a fixed word, and the one that stands here is none of those due
  Unknown : Place
  -- the words that are left, whatever they are
  AnyWords : Place

-- a value that is given, as one that may be absent
abbrev pub known : Option ℕ → Option (Option ℕ)
known (Some value) = Some (Some value)
known None = None

abbrev pub value_or : {A : Type 0} → Option A → A → A
value_or (Some value) other = value
value_or None other = other

-- a client's number, or nothing for `m`
abbrev pub actor_of : List ℕ → Option (Option ℕ)
actor_of word = if bytes_eq word (codes "m") then Some None else known (number_of word)

-- an answered word, or nothing for `lost`
abbrev pub answer_of : List ℕ → Option (Option ℕ)
answer_of word = if bytes_eq word (codes "lost") then Some None else known (word_of word)

-- the fault of a word that should have had a value
abbrev pub unless_some : {A : Type 0} → Option A → BadKind → Option BadKind
unless_some (Some value) fault = None
unless_some None fault = Some fault

-- the fault of a word at its place
abbrev pub word_fault : Place → List ℕ → Option BadKind
word_fault NumberDue word = unless_some (number_of word) kind.Number
word_fault ActorDue word = unless_some (actor_of word) kind.Number
word_fault BytesDue word = unless_some (bytes_of word) kind.Hex
word_fault WordDue word = unless_some (word_of word) kind.Hex
word_fault AnswerDue word = unless_some (answer_of word) kind.Hex
word_fault (Exactly due) word = if bytes_eq word due then None else Some kind.Word
word_fault Unknown word = Some kind.Word
word_fault AnyWords word = None

-- the fault at a place, where these words are left
abbrev pub place_fault : Place → List (List ℕ) → Option BadKind
place_fault AnyWords words = None
place_fault place [] = Some kind.Count
place_fault place (word ∷ words) = word_fault place word

-- the words behind the first
abbrev pub rest : List (List ℕ) → List (List ℕ)
rest [] = []
rest (word ∷ words) = words

-- the words behind a place
abbrev pub behind : Place → List (List ℕ) → List (List ℕ)
behind AnyWords words = []
behind place words = rest words

-- the value of the first word, or the other value where it has none
abbrev pub first_value : {A : Type 0} → (List ℕ → Option A) → A → List (List ℕ) → A
first_value value_of other [] = other
first_value value_of other (word ∷ words) = value_or (value_of word) other

abbrev pub number_in : List (List ℕ) → ℕ
number_in words = first_value number_of 0 words

abbrev pub actor_in : List (List ℕ) → Option ℕ
actor_in words = first_value actor_of None words

abbrev pub bytes_in : List (List ℕ) → List ℕ
bytes_in words = first_value bytes_of [] words

abbrev pub word_in : List (List ℕ) → ℕ
word_in words = first_value word_of 0 words

abbrev pub answer_in : List (List ℕ) → Option ℕ
answer_in words = first_value answer_of None words

-- the order in which kinds are tested
abbrev pub rank : BadKind → ℕ
rank kind.Byte = 0
rank kind.NoShape = 1
rank kind.Word = 2
rank kind.Count = 3
rank kind.Number = 4
rank kind.Hex = 5
rank kind.Shape = 6
rank kind.Block = 7

abbrev pub first_kind : BadKind → BadKind → BadKind
first_kind first second = if nat_lt (rank second) (rank first) then second else first

-- the fault of the two whose kind is tested first
abbrev pub first_fault : Option BadKind → Option BadKind → Option BadKind
first_fault first None = first
first_fault None (Some second) = Some second
first_fault (Some first) (Some second) = Some (first_kind first second)

-- the words of a line that are left, and the first kind of fault of those before them
pub record Reading : Type 0 where
  pub words : List (List ℕ)
  pub fault : Option BadKind

-- a reading, one place on
abbrev pub past : Place → Reading → Reading
past place reading = record { words = behind place reading.words; fault = first_fault reading.fault (place_fault place reading.words) }

-- a reading, behind these places
abbrev pub past_all : List Place → Reading → Reading
past_all [] reading = reading
past_all (place ∷ places) reading = past_all places (past place reading)

-- the words behind these places
abbrev pub behind_all : List Place → List (List ℕ) → List (List ℕ)
behind_all [] words = words
behind_all (place ∷ places) words = behind_all places (behind place words)
