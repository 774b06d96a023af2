-- What a line is read as is what its words mean.
use Rattle.std.proofs.Common.{◌≡◌, ℕ, ◌≤◌, ◌==◌, Bool, true, false, List, [], ◌∷◌, Option, Some, None, Result, Ok, Err, refl, sym, subst, arith}
use Rattle.std.specs.Prelude.{if◌then◌else◌, bytes_eq, codes}
use Rattle.std.specs.List.{find}
use Rattle.std.specs.Option.{option_map_or}
use Rattle.std.proofs.lemmas.Bool.Decides.{nat_tests}
use Rattle.std.proofs.lemmas.Slice.Eq.{bytes_eq-Decides}
use Rattle.text_lines.specs.Number.{number_of}
use Rattle.script_text.specs.Keyword.{keyword_of, name_of}
use Rattle.script_text.specs.LineForm.{call_delete, call_get, call_line, call_put, count_due, delete_line, fill_line, fill_of, get_line, keyed, line_after, line_of, number_due, numbered, numbered_line, plain, put_line, step_line, step_of, task_line, valued, verbs_line, work_line}
use Rattle.script_text.specs.Meaning.{MeansLine}
use Rattle.script_text.specs.ShapeForm.{seven_numbers, shape_refused}
use Rattle.script_text.specs.WordValue.{bytes_of, word_of}
use Rattle.script_text.specs.declared.faults.BadKind.{BadKind}
use Rattle.script_text.specs.declared.faults.BadKind.TheVariants as kind
use Rattle.script_text.specs.declared.keywords.Keyword.{Keyword}
use Rattle.script_text.specs.declared.keywords.Keyword.TheVariants as keyword
use Rattle.script_text.specs.declared.keywords.TheConstants.{KEYWORDS}
use Rattle.script_text.specs.declared.scripts.CallText.TheVariants as call
use Rattle.script_text.specs.declared.scripts.Line.{Line}
use Rattle.script_text.specs.declared.scripts.Line.TheVariants as lines

same_bytes : (xs ys : List ℕ) → bytes_eq xs ys ≡ true → xs ≡ ys
same_bytes xs ys is = (bytes_eq-Decides xs ys).0 is

found_first : {X : Type 0} (test : X → Bool) (ys : List X) (x y : X) (passes : Bool) → test y ≡ passes → (if passes then Some y else find test ys) ≡ Some x → (find test ys ≡ Some x → test x ≡ true) → test x ≡ true
found_first test ys x y true at is later = let same : y ≡ x = cc in rw (← same) at
found_first test ys x y false at is later = later is

-- what `find` finds passes
found_passes : {X : Type 0} (test : X → Bool) (xs : List X) (x : X) → find test xs ≡ Some x → test x ≡ true
found_passes test [] x is = cc
found_passes test (y ∷ ys) x is = found_first test ys x y (test y) refl is (found_passes test ys x)

keyword_of-named : (word : List ℕ) (keyword : Keyword) → keyword_of word ≡ Some keyword → name_of keyword ≡ word
unfolding keyword_of
keyword_of-named word keyword is = same_bytes (name_of keyword) word (found_passes (λ keyword. bytes_eq (name_of keyword) word) KEYWORDS keyword is)

plain_is : (made line : Line) (words : List (List ℕ)) → plain made words ≡ Ok line → (words ≡ []) × (made ≡ line)
plain_is made line [] is = (refl, cc)
plain_is made line (word ∷ words) is = cc

-- a line with one number
record Numbered (make : ℕ → Line) (number : Option ℕ) (line : Line) : Type 0 where
  value : ℕ
  is : number ≡ Some value
  made : make value ≡ line

number_is : (make : ℕ → Line) (number : Option ℕ) (line : Line) → numbered_line make (number_due number) ≡ Ok line → Numbered make number line
number_is make None line is = cc
number_is make (Some value) line is = record { value = value; is = refl; made = cc }

numbered_means : (make : ℕ → Line) (words : List (List ℕ)) (line : Line) (P : List (List ℕ) → Line → Type 0)
    → ((word : List ℕ) (value : ℕ) → number_of word ≡ Some value → P (word ∷ []) (make value)) → numbered make words ≡ Ok line → P words line
numbered_means make [] line P holds is = cc
numbered_means make (word ∷ []) line P holds is =
    let n = number_is make (number_of word) line is in
    subst (P (word ∷ [])) n.made (holds word n.value n.is)
numbered_means make (word ∷ next ∷ words) line P holds is = cc

plain_means : (made : Line) (words : List (List ℕ)) (line : Line) (P : List (List ℕ) → Line → Type 0) → P [] made → plain made words ≡ Ok line → P words line
plain_means made [] line P holds is = let same : made ≡ line = cc in subst (P []) same holds
plain_means made (word ∷ words) line P holds is = cc

count_is : (make : ℕ → Line) (count : ℕ) (none : Bool) (line : Line) → (count == 0) ≡ none → numbered_line make (if none then Err kind.Number else Ok count) ≡ Ok line → (1 ≤ count) × (make count ≡ line)
count_is make count true line test is = cc
count_is make count false line test is = (grind (arith, nat_tests), cc)

-- a line with a count of verbs
record Counted (make : ℕ → Line) (number : Option ℕ) (line : Line) : Type 0 where
  value : ℕ
  is : number ≡ Some value
  some : 1 ≤ value
  made : make value ≡ line

counted_is : (make : ℕ → Line) (number : Option ℕ) (line : Line) → numbered_line make (count_due number) ≡ Ok line → Counted make number line
counted_is make None line is = cc
counted_is make (Some value) line is =
    let count = count_is make value (value == 0) line refl is in
    record { value = value; is = refl; some = count.0; made = count.1 }

work_means : (words : List (List ℕ)) (line : Line) → work_line words ≡ Ok line → MeansLine (codes "work" ∷ words) line
work_means [] line is = cc
work_means (word ∷ []) line is =
    let n = counted_is lines.Work (number_of word) line is in
    subst (MeansLine (codes "work" ∷ word ∷ [])) n.made ((refl, (n.is, tt)), n.some)
work_means (word ∷ next ∷ words) line is = cc

record Stepped (client : Option ℕ) (count : Option ℕ) (line : Line) : Type 0 where
  value : ℕ
  is : client ≡ Some value
  counted : Counted (lines.Step value) count line

step_is : (client count : Option ℕ) (line : Line) → step_of client (count_due count) ≡ Ok line → Stepped client count line
step_is None count line is = cc
step_is (Some value) count line is = record { value = value; is = refl; counted = counted_is (lines.Step value) count line is }

step_means : (words : List (List ℕ)) (line : Line) → step_line words ≡ Ok line → MeansLine (codes "step" ∷ words) line
step_means [] line is = cc
step_means (word ∷ []) line is = cc
step_means (client ∷ count ∷ []) line is =
    let s = step_is (number_of client) (number_of count) line is in
    subst (MeansLine (codes "step" ∷ client ∷ count ∷ [])) s.counted.made ((refl, (s.is, (s.counted.is, tt))), s.counted.some)
step_means (word ∷ next ∷ last ∷ words) line is = cc

record Filled (number value : Option ℕ) (line : Line) : Type 0 where
  node : ℕ
  word : ℕ
  node_is : number ≡ Some node
  word_is : value ≡ Some word
  made : lines.Fill node word ≡ line

fill_is : (number value : Option ℕ) (line : Line) → fill_of number value ≡ Ok line → Filled number value line
fill_is None value line is = cc
fill_is (Some node) None line is = cc
fill_is (Some node) (Some word) line is = record { node = node; word = word; node_is = refl; word_is = refl; made = cc }

fill_means : (words : List (List ℕ)) (line : Line) → fill_line words ≡ Ok line → MeansLine (codes "fill" ∷ words) line
fill_means [] line is = cc
fill_means (word ∷ []) line is = cc
fill_means (node ∷ word ∷ []) line is =
    let f = fill_is (number_of node) (word_of word) line is in
    subst (MeansLine (codes "fill" ∷ node ∷ word ∷ [])) f.made ((refl, (f.node_is, (f.word_is, tt))), tt)
fill_means (word ∷ next ∷ last ∷ words) line is = cc

-- a line with a number and bytes
record Keyed (make : ℕ → List ℕ → Line) (number : Option ℕ) (bytes : Option (List ℕ)) (line : Line) : Type 0 where
  client : ℕ
  key : List ℕ
  client_is : number ≡ Some client
  key_is : bytes ≡ Some key
  made : make client key ≡ line

keyed_is : (make : ℕ → List ℕ → Line) (number : Option ℕ) (bytes : Option (List ℕ)) (line : Line) → keyed make number bytes ≡ Ok line → Keyed make number bytes line
keyed_is make None bytes line is = cc
keyed_is make (Some client) None line is = cc
keyed_is make (Some client) (Some key) line is = record { client = client; key = key; client_is = refl; key_is = refl; made = cc }

-- a line with a number and bytes twice
record Valued (make : ℕ → List ℕ → List ℕ → Line) (number : Option ℕ) (bytes more : Option (List ℕ)) (line : Line) : Type 0 where
  client : ℕ
  key : List ℕ
  value : List ℕ
  client_is : number ≡ Some client
  key_is : bytes ≡ Some key
  value_is : more ≡ Some value
  made : make client key value ≡ line

valued_is : (make : ℕ → List ℕ → List ℕ → Line) (number : Option ℕ) (bytes more : Option (List ℕ)) (line : Line) → valued make number bytes more ≡ Ok line → Valued make number bytes more line
valued_is make None bytes more line is = cc
valued_is make (Some client) None more line is = cc
valued_is make (Some client) (Some key) None line is = cc
valued_is make (Some client) (Some key) (Some value) line is =
    record { client = client; key = key; value = value; client_is = refl; key_is = refl; value_is = refl; made = cc }

put_means : (words : List (List ℕ)) (line : Line) → put_line words ≡ Ok line → MeansLine (codes "put" ∷ words) line
put_means [] line is = cc
put_means (word ∷ []) line is = cc
put_means (word ∷ next ∷ []) line is = cc
put_means (client ∷ key ∷ value ∷ []) line is =
    let v = valued_is lines.Put (number_of client) (bytes_of key) (bytes_of value) line is in
    subst (MeansLine (codes "put" ∷ client ∷ key ∷ value ∷ [])) v.made ((refl, (v.client_is, (v.key_is, (v.value_is, tt)))), tt)
put_means (word ∷ next ∷ last ∷ more ∷ words) line is = cc

get_means : (words : List (List ℕ)) (line : Line) → get_line words ≡ Ok line → MeansLine (codes "get" ∷ words) line
get_means [] line is = cc
get_means (word ∷ []) line is = cc
get_means (client ∷ key ∷ []) line is =
    let k = keyed_is lines.Get (number_of client) (bytes_of key) line is in
    subst (MeansLine (codes "get" ∷ client ∷ key ∷ [])) k.made ((refl, (k.client_is, (k.key_is, tt))), tt)
get_means (word ∷ next ∷ last ∷ words) line is = cc

delete_means : (words : List (List ℕ)) (line : Line) → delete_line words ≡ Ok line → MeansLine (codes "delete" ∷ words) line
delete_means [] line is = cc
delete_means (word ∷ []) line is = cc
delete_means (client ∷ key ∷ []) line is =
    let k = keyed_is lines.Delete (number_of client) (bytes_of key) line is in
    subst (MeansLine (codes "delete" ∷ client ∷ key ∷ [])) k.made ((refl, (k.client_is, (k.key_is, tt))), tt)
delete_means (word ∷ next ∷ last ∷ words) line is = cc

call_put_means : (client : List ℕ) (words : List (List ℕ)) (line : Line) → call_put client words ≡ Ok line → MeansLine (codes "call" ∷ client ∷ codes "put" ∷ words) line
call_put_means client [] line is = cc
call_put_means client (word ∷ []) line is = cc
call_put_means client (key ∷ value ∷ []) line is =
    let v = valued_is (λ client key value. lines.Call client (call.Put key value)) (number_of client) (bytes_of key) (bytes_of value) line is in
    subst (MeansLine (codes "call" ∷ client ∷ codes "put" ∷ key ∷ value ∷ [])) v.made ((refl, (v.client_is, (refl, (v.key_is, (v.value_is, tt))))), tt)
call_put_means client (word ∷ next ∷ last ∷ words) line is = cc

call_get_means : (client : List ℕ) (words : List (List ℕ)) (line : Line) → call_get client words ≡ Ok line → MeansLine (codes "call" ∷ client ∷ codes "get" ∷ words) line
call_get_means client [] line is = cc
call_get_means client (key ∷ []) line is =
    let k = keyed_is (λ client key. lines.Call client (call.Get key)) (number_of client) (bytes_of key) line is in
    subst (MeansLine (codes "call" ∷ client ∷ codes "get" ∷ key ∷ [])) k.made ((refl, (k.client_is, (refl, (k.key_is, tt)))), tt)
call_get_means client (word ∷ next ∷ words) line is = cc

call_delete_means : (client : List ℕ) (words : List (List ℕ)) (line : Line) → call_delete client words ≡ Ok line → MeansLine (codes "call" ∷ client ∷ codes "delete" ∷ words) line
call_delete_means client [] line is = cc
call_delete_means client (key ∷ []) line is =
    let k = keyed_is (λ client key. lines.Call client (call.Delete key)) (number_of client) (bytes_of key) line is in
    subst (MeansLine (codes "call" ∷ client ∷ codes "delete" ∷ key ∷ [])) k.made ((refl, (k.client_is, (refl, (k.key_is, tt)))), tt)
call_delete_means client (word ∷ next ∷ words) line is = cc

-- a fixed word, one of three
named : (P : List ℕ → Type 0) (a b c : List ℕ) (line : Line) (x y z : Result Line BadKind) (name : List ℕ) (is_a is_b is_c : Bool)
    → bytes_eq name a ≡ is_a → bytes_eq name b ≡ is_b → bytes_eq name c ≡ is_c
    → (x ≡ Ok line → P a) → (y ≡ Ok line → P b) → (z ≡ Ok line → P c)
    → (if is_a then x else (if is_b then y else (if is_c then z else Err kind.Word))) ≡ Ok line → P name
named P a b c line x y z name true is_b is_c at_a at_b at_c from_a from_b from_c is = subst P (sym (same_bytes name a at_a)) (from_a is)
named P a b c line x y z name false true is_c at_a at_b at_c from_a from_b from_c is = subst P (sym (same_bytes name b at_b)) (from_b is)
named P a b c line x y z name false false true at_a at_b at_c from_a from_b from_c is = subst P (sym (same_bytes name c at_c)) (from_c is)
named P a b c line x y z name false false false at_a at_b at_c from_a from_b from_c is = cc

call_means : (words : List (List ℕ)) (line : Line) → call_line words ≡ Ok line → MeansLine (codes "call" ∷ words) line
call_means [] line is = cc
call_means (client ∷ []) line is = cc
call_means (client ∷ name ∷ words) line is =
    named (λ name. MeansLine (codes "call" ∷ client ∷ name ∷ words) line) (codes "put") (codes "get") (codes "delete") line (call_put client words) (call_get client words) (call_delete client words) name
    (bytes_eq name (codes "put")) (bytes_eq name (codes "get")) (bytes_eq name (codes "delete")) refl refl refl
    (call_put_means client words line) (call_get_means client words line) (call_delete_means client words line) is

task_means : (words : List (List ℕ)) (line : Line) → task_line words ≡ Ok line → MeansLine (codes "task" ∷ words) line
task_means [] line is = cc
task_means (name ∷ words) line is =
    named (λ name. MeansLine (codes "task" ∷ name ∷ words) line) (codes "settle") (codes "recover") (codes "join") line (plain lines.TaskSettle words) (numbered lines.TaskRecover words) (numbered lines.TaskJoin words) name
    (bytes_eq name (codes "settle")) (bytes_eq name (codes "recover")) (bytes_eq name (codes "join")) refl refl refl
    (plain_means lines.TaskSettle words line (λ words line. MeansLine (codes "task" ∷ codes "settle" ∷ words) line) ((refl, (refl, tt)), tt))
    (numbered_means lines.TaskRecover words line (λ words line. MeansLine (codes "task" ∷ codes "recover" ∷ words) line) (λ word value number. ((refl, (refl, (number, tt))), tt)))
    (numbered_means lines.TaskJoin words line (λ words line. MeansLine (codes "task" ∷ codes "join" ∷ words) line) (λ word value number. ((refl, (refl, (number, tt))), tt))) is

-- a fixed word, one of two
either_named : (P : List ℕ → Type 0) (a b : List ℕ) (line : Line) (x y : Result Line BadKind) (name : List ℕ) (is_a is_b : Bool)
    → bytes_eq name a ≡ is_a → bytes_eq name b ≡ is_b → (x ≡ Ok line → P a) → (y ≡ Ok line → P b)
    → (if is_a then x else (if is_b then y else Err kind.Word)) ≡ Ok line → P name
either_named P a b line x y name true is_b at_a at_b from_a from_b is = subst P (sym (same_bytes name a at_a)) (from_a is)
either_named P a b line x y name false true at_a at_b from_a from_b is = subst P (sym (same_bytes name b at_b)) (from_b is)
either_named P a b line x y name false false at_a at_b from_a from_b is = cc

verbs_means : (words : List (List ℕ)) (line : Line) → verbs_line words ≡ Ok line → MeansLine (codes "verbs" ∷ words) line
verbs_means [] line is = cc
verbs_means (name ∷ words) line is =
    either_named (λ name. MeansLine (codes "verbs" ∷ name ∷ words) line) (codes "on") (codes "off") line (plain (lines.Verbs true) words) (plain (lines.Verbs false) words) name
    (bytes_eq name (codes "on")) (bytes_eq name (codes "off")) refl refl
    (plain_means (lines.Verbs true) words line (λ words line. MeansLine (codes "verbs" ∷ codes "on" ∷ words) line) ((refl, (refl, tt)), tt))
    (plain_means (lines.Verbs false) words line (λ words line. MeansLine (codes "verbs" ∷ codes "off" ∷ words) line) ((refl, (refl, tt)), tt)) is

refused_means : (sizes : Result (List ℕ) BadKind) (line : Line) (P : Type 0) → shape_refused sizes ≡ Ok line → P
refused_means (Ok sizes) line P is = cc
refused_means (Err kind) line P is = cc

line_after-means : (keyword : Keyword) (words : List (List ℕ)) (line : Line) → line_after keyword words ≡ Ok line → MeansLine (name_of keyword ∷ words) line
line_after-means keyword.Shape words line is = refused_means (seven_numbers words) line (MeansLine (codes "shape" ∷ words) line) is
line_after-means keyword.Register words line is = plain_means lines.Register words line (λ words line. MeansLine (codes "register" ∷ words) line) ((refl, tt), tt) is
line_after-means keyword.Settle words line is = plain_means lines.Settle words line (λ words line. MeansLine (codes "settle" ∷ words) line) ((refl, tt), tt) is
line_after-means keyword.Dump words line is = plain_means lines.Dump words line (λ words line. MeansLine (codes "dump" ∷ words) line) ((refl, tt), tt) is
line_after-means keyword.Count words line is = plain_means lines.Count words line (λ words line. MeansLine (codes "count" ∷ words) line) ((refl, tt), tt) is
line_after-means keyword.History words line is = plain_means lines.History words line (λ words line. MeansLine (codes "history" ∷ words) line) ((refl, tt), tt) is
line_after-means keyword.Go words line is = numbered_means lines.Go words line (λ words line. MeansLine (codes "go" ∷ words) line) (λ word value number. ((refl, (number, tt)), tt)) is
line_after-means keyword.Late words line is = numbered_means lines.Late words line (λ words line. MeansLine (codes "late" ∷ words) line) (λ word value number. ((refl, (number, tt)), tt)) is
line_after-means keyword.Stop words line is = numbered_means lines.Stop words line (λ words line. MeansLine (codes "stop" ∷ words) line) (λ word value number. ((refl, (number, tt)), tt)) is
line_after-means keyword.Lose words line is = numbered_means lines.Lose words line (λ words line. MeansLine (codes "lose" ∷ words) line) (λ word value number. ((refl, (number, tt)), tt)) is
line_after-means keyword.Recover words line is = numbered_means lines.Recover words line (λ words line. MeansLine (codes "recover" ∷ words) line) (λ word value number. ((refl, (number, tt)), tt)) is
line_after-means keyword.Join words line is = numbered_means lines.Join words line (λ words line. MeansLine (codes "join" ∷ words) line) (λ word value number. ((refl, (number, tt)), tt)) is
line_after-means keyword.Put words line is = put_means words line is
line_after-means keyword.Get words line is = get_means words line is
line_after-means keyword.Delete words line is = delete_means words line is
line_after-means keyword.Call words line is = call_means words line is
line_after-means keyword.Step words line is = step_means words line is
line_after-means keyword.Fill words line is = fill_means words line is
line_after-means keyword.Task words line is = task_means words line is
line_after-means keyword.Work words line is = work_means words line is
line_after-means keyword.Verbs words line is = verbs_means words line is

named_means : (found : Option Keyword) (name : List ℕ) (words : List (List ℕ)) (line : Line) → keyword_of name ≡ found
    → option_map_or (λ keyword. line_after keyword words) found (Err kind.Word) ≡ Ok line → MeansLine (name ∷ words) line
named_means None name words line found is = cc
named_means (Some keyword) name words line found is =
    subst (λ name. MeansLine (name ∷ words) line) (keyword_of-named name keyword found) (line_after-means keyword words line is)

-- words that are read as a line mean it
pub means-line_of : (words : List (List ℕ)) (line : Line) → line_of words ≡ Ok line → MeansLine words line
unfolding line_of
means-line_of [] line is = cc
means-line_of (name ∷ words) line is = named_means (keyword_of name) name words line refl is
