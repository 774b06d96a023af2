-- The words of a line mean a line exactly where they are read as it.
use Rattle.std.proofs.Common.{◌≡◌, ℕ, ◌≤◌, ◌==◌, true, false, List, [], ◌∷◌, Ok, refl, ap, ◌∙◌, arith}
use Rattle.std.proofs.lemmas.Bool.Decides.{nat_tests}
use Rattle.script_text.specs.Keyword.{keyword_of}
use Rattle.script_text.specs.LineForm.{line_of}
use Rattle.script_text.specs.Meaning.{MeansLine, Part, StandFor, StandsFor, form}
use Rattle.script_text.specs.declared.scripts.CallText.TheVariants as call
use Rattle.script_text.specs.declared.scripts.Line.{Line}
use Rattle.script_text.specs.declared.scripts.Line.TheVariants as line

-- the first word and the first part, and the others
record Split (words : List (List ℕ)) (part : Part) (parts : List Part) : Type 0 where
  first : List ℕ
  others : List (List ℕ)
  is : words ≡ first ∷ others
  stands : StandsFor first part
  rest : StandFor others parts

split : (words : List (List ℕ)) (part : Part) (parts : List Part) → StandFor words (part ∷ parts) → Split words part parts
split [] part parts stand = absurd stand
split (first ∷ others) part parts stand = record { first = first; others = others; is = refl; stands = stand.0; rest = stand.1 }

ended : (words : List (List ℕ)) → StandFor words [] → words ≡ []
ended [] stand = refl
ended (word ∷ words) stand = absurd stand

-- forms of one part, of two, and so on
record One (words : List (List ℕ)) (a : Part) : Type 0 where
  word : List ℕ
  is : words ≡ word ∷ []
  stands : StandsFor word a

one : (words : List (List ℕ)) (a : Part) → StandFor words (a ∷ []) → One words a
one words a stand =
    let s = split words a [] stand in
    record { word = s.first; is = s.is ∙ ap (λ rest. s.first ∷ rest) (ended s.others s.rest); stands = s.stands }

record Two (words : List (List ℕ)) (a b : Part) : Type 0 where
  word : List ℕ
  others : List (List ℕ)
  is : words ≡ word ∷ others
  stands : StandsFor word a
  rest : One others b

two : (words : List (List ℕ)) (a b : Part) → StandFor words (a ∷ b ∷ []) → Two words a b
two words a b stand =
    let s = split words a (b ∷ []) stand in
    record { word = s.first; others = s.others; is = s.is; stands = s.stands; rest = one s.others b s.rest }

record Three (words : List (List ℕ)) (a b c : Part) : Type 0 where
  word : List ℕ
  others : List (List ℕ)
  is : words ≡ word ∷ others
  stands : StandsFor word a
  rest : Two others b c

three : (words : List (List ℕ)) (a b c : Part) → StandFor words (a ∷ b ∷ c ∷ []) → Three words a b c
three words a b c stand =
    let s = split words a (b ∷ c ∷ []) stand in
    record { word = s.first; others = s.others; is = s.is; stands = s.stands; rest = two s.others b c s.rest }

record Four (words : List (List ℕ)) (a b c d : Part) : Type 0 where
  word : List ℕ
  others : List (List ℕ)
  is : words ≡ word ∷ others
  stands : StandsFor word a
  rest : Three others b c d

four : (words : List (List ℕ)) (a b c d : Part) → StandFor words (a ∷ b ∷ c ∷ d ∷ []) → Four words a b c d
four words a b c d stand =
    let s = split words a (b ∷ c ∷ d ∷ []) stand in
    record { word = s.first; others = s.others; is = s.is; stands = s.stands; rest = three s.others b c d s.rest }

record Five (words : List (List ℕ)) (a b c d e : Part) : Type 0 where
  word : List ℕ
  others : List (List ℕ)
  is : words ≡ word ∷ others
  stands : StandsFor word a
  rest : Four others b c d e

five : (words : List (List ℕ)) (a b c d e : Part) → StandFor words (a ∷ b ∷ c ∷ d ∷ e ∷ []) → Five words a b c d e
five words a b c d e stand =
    let s = split words a (b ∷ c ∷ d ∷ e ∷ []) stand in
    record { word = s.first; others = s.others; is = s.is; stands = s.stands; rest = four s.others b c d e s.rest }

counted : (count : ℕ) → 1 ≤ count → (count == 0) ≡ false
counted count some = grind (arith, nat_tests)

register_read : (words : List (List ℕ)) → StandFor words (form line.Register) → line_of words ≡ Ok line.Register
unfolding line_of keyword_of
register_read words stand =
    let s = one words _ stand in
    rw (s.is, s.stands) refl

put_read : (words : List (List ℕ)) (client : ℕ) (key : List ℕ) (value : List ℕ) → StandFor words (form (line.Put client key value)) → line_of words ≡ Ok (line.Put client key value)
unfolding line_of keyword_of
put_read words client key value stand =
    let s = four words _ _ _ _ stand in
    rw (s.is, s.stands, s.rest.is, s.rest.rest.is, s.rest.rest.rest.is, s.rest.stands, s.rest.rest.stands, s.rest.rest.rest.stands) refl

get_read : (words : List (List ℕ)) (client : ℕ) (key : List ℕ) → StandFor words (form (line.Get client key)) → line_of words ≡ Ok (line.Get client key)
unfolding line_of keyword_of
get_read words client key stand =
    let s = three words _ _ _ stand in
    rw (s.is, s.stands, s.rest.is, s.rest.rest.is, s.rest.stands, s.rest.rest.stands) refl

delete_read : (words : List (List ℕ)) (client : ℕ) (key : List ℕ) → StandFor words (form (line.Delete client key)) → line_of words ≡ Ok (line.Delete client key)
unfolding line_of keyword_of
delete_read words client key stand =
    let s = three words _ _ _ stand in
    rw (s.is, s.stands, s.rest.is, s.rest.rest.is, s.rest.stands, s.rest.rest.stands) refl

go_read : (words : List (List ℕ)) (client : ℕ) → StandFor words (form (line.Go client)) → line_of words ≡ Ok (line.Go client)
unfolding line_of keyword_of
go_read words client stand =
    let s = two words _ _ stand in
    rw (s.is, s.stands, s.rest.is, s.rest.stands) refl

late_read : (words : List (List ℕ)) (client : ℕ) → StandFor words (form (line.Late client)) → line_of words ≡ Ok (line.Late client)
unfolding line_of keyword_of
late_read words client stand =
    let s = two words _ _ stand in
    rw (s.is, s.stands, s.rest.is, s.rest.stands) refl

stop_read : (words : List (List ℕ)) (client : ℕ) → StandFor words (form (line.Stop client)) → line_of words ≡ Ok (line.Stop client)
unfolding line_of keyword_of
stop_read words client stand =
    let s = two words _ _ stand in
    rw (s.is, s.stands, s.rest.is, s.rest.stands) refl

lose_read : (words : List (List ℕ)) (node : ℕ) → StandFor words (form (line.Lose node)) → line_of words ≡ Ok (line.Lose node)
unfolding line_of keyword_of
lose_read words node stand =
    let s = two words _ _ stand in
    rw (s.is, s.stands, s.rest.is, s.rest.stands) refl

settle_read : (words : List (List ℕ)) → StandFor words (form line.Settle) → line_of words ≡ Ok line.Settle
unfolding line_of keyword_of
settle_read words stand =
    let s = one words _ stand in
    rw (s.is, s.stands) refl

recover_read : (words : List (List ℕ)) (client : ℕ) → StandFor words (form (line.Recover client)) → line_of words ≡ Ok (line.Recover client)
unfolding line_of keyword_of
recover_read words client stand =
    let s = two words _ _ stand in
    rw (s.is, s.stands, s.rest.is, s.rest.stands) refl

task_settle_read : (words : List (List ℕ)) → StandFor words (form line.TaskSettle) → line_of words ≡ Ok line.TaskSettle
unfolding line_of keyword_of
task_settle_read words stand =
    let s = two words _ _ stand in
    rw (s.is, s.stands, s.rest.is, s.rest.stands) refl

task_recover_read : (words : List (List ℕ)) (client : ℕ) → StandFor words (form (line.TaskRecover client)) → line_of words ≡ Ok (line.TaskRecover client)
unfolding line_of keyword_of
task_recover_read words client stand =
    let s = three words _ _ _ stand in
    rw (s.is, s.stands, s.rest.is, s.rest.rest.is, s.rest.stands, s.rest.rest.stands) refl

dump_read : (words : List (List ℕ)) → StandFor words (form line.Dump) → line_of words ≡ Ok line.Dump
unfolding line_of keyword_of
dump_read words stand =
    let s = one words _ stand in
    rw (s.is, s.stands) refl

count_read : (words : List (List ℕ)) → StandFor words (form line.Count) → line_of words ≡ Ok line.Count
unfolding line_of keyword_of
count_read words stand =
    let s = one words _ stand in
    rw (s.is, s.stands) refl

history_read : (words : List (List ℕ)) → StandFor words (form line.History) → line_of words ≡ Ok line.History
unfolding line_of keyword_of
history_read words stand =
    let s = one words _ stand in
    rw (s.is, s.stands) refl

fill_read : (words : List (List ℕ)) (node : ℕ) (value : ℕ) → StandFor words (form (line.Fill node value)) → line_of words ≡ Ok (line.Fill node value)
unfolding line_of keyword_of
fill_read words node value stand =
    let s = three words _ _ _ stand in
    rw (s.is, s.stands, s.rest.is, s.rest.rest.is, s.rest.stands, s.rest.rest.stands) refl

join_read : (words : List (List ℕ)) (node : ℕ) → StandFor words (form (line.Join node)) → line_of words ≡ Ok (line.Join node)
unfolding line_of keyword_of
join_read words node stand =
    let s = two words _ _ stand in
    rw (s.is, s.stands, s.rest.is, s.rest.stands) refl

task_join_read : (words : List (List ℕ)) (node : ℕ) → StandFor words (form (line.TaskJoin node)) → line_of words ≡ Ok (line.TaskJoin node)
unfolding line_of keyword_of
task_join_read words node stand =
    let s = three words _ _ _ stand in
    rw (s.is, s.stands, s.rest.is, s.rest.rest.is, s.rest.stands, s.rest.rest.stands) refl

call_put_read : (words : List (List ℕ)) (client : ℕ) (key : List ℕ) (value : List ℕ) → StandFor words (form (line.Call client (call.Put key value))) → line_of words ≡ Ok (line.Call client (call.Put key value))
unfolding line_of keyword_of
call_put_read words client key value stand =
    let s = five words _ _ _ _ _ stand in
    rw (s.is, s.stands, s.rest.is, s.rest.rest.is, s.rest.rest.rest.is, s.rest.rest.rest.rest.is, s.rest.stands, s.rest.rest.stands, s.rest.rest.rest.stands, s.rest.rest.rest.rest.stands) refl

call_get_read : (words : List (List ℕ)) (client : ℕ) (key : List ℕ) → StandFor words (form (line.Call client (call.Get key))) → line_of words ≡ Ok (line.Call client (call.Get key))
unfolding line_of keyword_of
call_get_read words client key stand =
    let s = four words _ _ _ _ stand in
    rw (s.is, s.stands, s.rest.is, s.rest.rest.is, s.rest.rest.rest.is, s.rest.stands, s.rest.rest.stands, s.rest.rest.rest.stands) refl

call_delete_read : (words : List (List ℕ)) (client : ℕ) (key : List ℕ) → StandFor words (form (line.Call client (call.Delete key))) → line_of words ≡ Ok (line.Call client (call.Delete key))
unfolding line_of keyword_of
call_delete_read words client key stand =
    let s = four words _ _ _ _ stand in
    rw (s.is, s.stands, s.rest.is, s.rest.rest.is, s.rest.rest.rest.is, s.rest.stands, s.rest.rest.stands, s.rest.rest.rest.stands) refl

verbs_on_read : (words : List (List ℕ)) → StandFor words (form (line.Verbs true)) → line_of words ≡ Ok (line.Verbs true)
unfolding line_of keyword_of
verbs_on_read words stand =
    let s = two words _ _ stand in
    rw (s.is, s.stands, s.rest.is, s.rest.stands) refl

verbs_off_read : (words : List (List ℕ)) → StandFor words (form (line.Verbs false)) → line_of words ≡ Ok (line.Verbs false)
unfolding line_of keyword_of
verbs_off_read words stand =
    let s = two words _ _ stand in
    rw (s.is, s.stands, s.rest.is, s.rest.stands) refl

step_read : (words : List (List ℕ)) (client count : ℕ) → StandFor words (form (line.Step client count)) → 1 ≤ count → line_of words ≡ Ok (line.Step client count)
unfolding line_of keyword_of
step_read words client count stand some =
    let s = three words _ _ _ stand in
    rw (s.is, s.stands, s.rest.is, s.rest.rest.is, s.rest.stands, s.rest.rest.stands, counted count some) refl

work_read : (words : List (List ℕ)) (count : ℕ) → StandFor words (form (line.Work count)) → 1 ≤ count → line_of words ≡ Ok (line.Work count)
unfolding line_of keyword_of
work_read words count stand some =
    let s = two words _ _ stand in
    rw (s.is, s.stands, s.rest.is, s.rest.stands, counted count some) refl

-- words that mean a line are read as it
pub line_of-means : (words : List (List ℕ)) (line : Line) → MeansLine words line → line_of words ≡ Ok line
line_of-means words line.Register means = register_read words means.0
line_of-means words (line.Put client key value) means = put_read words client key value means.0
line_of-means words (line.Get client key) means = get_read words client key means.0
line_of-means words (line.Delete client key) means = delete_read words client key means.0
line_of-means words (line.Go client) means = go_read words client means.0
line_of-means words (line.Late client) means = late_read words client means.0
line_of-means words (line.Stop client) means = stop_read words client means.0
line_of-means words (line.Lose node) means = lose_read words node means.0
line_of-means words line.Settle means = settle_read words means.0
line_of-means words (line.Recover client) means = recover_read words client means.0
line_of-means words line.TaskSettle means = task_settle_read words means.0
line_of-means words (line.TaskRecover client) means = task_recover_read words client means.0
line_of-means words line.Dump means = dump_read words means.0
line_of-means words line.Count means = count_read words means.0
line_of-means words line.History means = history_read words means.0
line_of-means words (line.Fill node value) means = fill_read words node value means.0
line_of-means words (line.Join node) means = join_read words node means.0
line_of-means words (line.TaskJoin node) means = task_join_read words node means.0
line_of-means words (line.Call client (call.Put key value)) means = call_put_read words client key value means.0
line_of-means words (line.Call client (call.Get key)) means = call_get_read words client key means.0
line_of-means words (line.Call client (call.Delete key)) means = call_delete_read words client key means.0
line_of-means words (line.Verbs true) means = verbs_on_read words means.0
line_of-means words (line.Verbs false) means = verbs_off_read words means.0
line_of-means words (line.Step client count) means = step_read words client count means.0 means.1
line_of-means words (line.Work count) means = work_read words count means.0 means.1
