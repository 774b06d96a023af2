-- The words of a dump, node by node and word by word; and a history, entry by entry.
use Rattle.std.proofs.Common.{◌≡◌, ℕ, zero, suc, ◌+◌, ◌-◌, ◌<◌, ◌≤◌, ◌==◌, Bool, true, false, if◌then◌else◌, List, [], ◌∷◌, ◌++◌, length, map, get_or, drop, refl, sym, ap, ◌∙◌, append_assoc, add-one, arith, length-append}
use Rattle.std.specs.Prelude.{slice_index}
use Rattle.std.proofs.Math.ListN.{length-replicate}
use Rattle.std.proofs.Math.Seq.{drop-cons}
use Rattle.std.proofs.lemmas.Bool.Decides.{nat_tests}
use Rattle.std.proofs.lemmas.List.{drop_all, get_or-map, get_or-replicate, length-map}
use Rattle.machine_world.specs.Ledger.{entry_of, history_of, in_order}
use Rattle.machine_world.specs.Standing.{node_sizes}
use Rattle.machine_world.specs.World.{Entered, World}
use Rattle.region_view.specs.Sizes.{Sizes, node_words}
use Rattle.script_meaning.specs.Shown.{entry_line, history_lines, nodes_from, word_line, words_from}
use Rattle.script_run.proofs.TakesLemmas.{text_of-append, text_of-one}
use Rattle.script_run.specs.Dumps.{words_at}
use Rattle.script_text.specs.OutputText.{line_text, text_of}
use Rattle.script_text.specs.declared.out_lines.OutLine.{OutLine}
use Rattle.script_text.specs.declared.out_lines.OutLine.TheVariants as out
use Rattle.verb_words.specs.Words.{words_on}

-- How many nodes there are, and how many words each has.

pub nodes-count : (sizes : Sizes) (nodes : List (List ℕ)) → map length nodes ≡ node_sizes sizes → length nodes ≡ sizes.nodes + 1
nodes-count sizes nodes same =
    let counts = ap length same in
    omega (arith, counts, length-map nodes length, length-replicate {A = ℕ} sizes.nodes (node_words sizes))

sized : (sizes : Sizes) (node : ℕ) → node < sizes.nodes + 1 → get_or (node_sizes sizes) node 0 ≡ words_at sizes node
sized sizes zero within = refl
sized sizes (suc k) within =
    let other : (suc k == 0) ≡ false = grind (arith, nat_tests) in
    rw other (get_or-replicate sizes.nodes k (node_words sizes) 0 (omega arith))

pub node-words : (sizes : Sizes) (nodes : List (List ℕ)) (node : ℕ) → map length nodes ≡ node_sizes sizes → node < sizes.nodes + 1 → words_at sizes node ≡ length (words_on nodes node)
node-words sizes nodes node same within =
    let count = nodes-count sizes nodes same in
    sym (sized sizes node within) ∙ ap (λ lengths. get_or lengths node 0) (sym same) ∙ get_or-map length nodes node [] 0 (omega arith)

-- Word by word.

pub words-step : (node at : ℕ) (words : List ℕ) → at < length words
    → words_from node at (drop at words) ≡ word_line node at (slice_index words at) ++ words_from node (at + 1) (drop (at + 1) words)
words-step node at words within = rw (drop-cons words at 0 within, add-one) refl

pub word-once : (node at word : ℕ) → length (word_line node at word) ≤ 1
word-once node at word = by (word == 0) refl
  where
    by : (t : Bool) → (word == 0) ≡ t → length (word_line node at word) ≤ 1
    by true none = rw none (omega arith)
    by false some = rw some (omega arith)

pub words-few : (node at : ℕ) (words : List ℕ) → length (words_from node at words) ≤ length words
words-few node at [] = omega arith
words-few node at (word ∷ words) =
    omega (arith, word-once node at word, length-append (word_line node at word) (words_from node (at + 1) words), words-few node (at + 1) words)

-- a word that is not 0 has a line
pub words-stored : (node at word : ℕ) (words : List ℕ) → at < length words → word ≡ slice_index words at → (slice_index words at == 0) ≡ false
    → words_from node at (drop at words) ≡ out.Word node at word ∷ words_from node (at + 1) (drop (at + 1) words)
words-stored node at word words within is stored =
    words-step node at words within
    ∙ ap (λ none. (if none then [] else out.Word node at (slice_index words at) ∷ []) ++ words_from node (at + 1) (drop (at + 1) words)) stored
    ∙ ap (λ w. out.Word node at w ∷ words_from node (at + 1) (drop (at + 1) words)) (sym is)

-- one that is 0 has none
words-zero : (node at : ℕ) (words : List ℕ) → at < length words → slice_index words at ≡ 0 → words_from node at (drop at words) ≡ words_from node (at + 1) (drop (at + 1) words)
words-zero node at words within none =
    words-step node at words within ∙ ap (λ w. word_line node at w ++ words_from node (at + 1) (drop (at + 1) words)) none

-- so many that are 0 have none
zeros-run : (node at n : ℕ) (words : List ℕ) → at + n ≤ length words → ((k : ℕ) → at ≤ k → k < at + n → slice_index words k ≡ 0)
    → words_from node at (drop at words) ≡ words_from node (at + n) (drop (at + n) words)
zeros-run node at zero words within none = ap (λ k. words_from node k (drop k words)) (stays at)
  where
    stays : (k : ℕ) → k ≡ k + 0
    stays k = omega arith
zeros-run node at (suc n) words within none =
    words-zero node at words (omega (arith, within)) (none at (omega arith) (omega arith))
    ∙ zeros-run node (at + 1) n words (omega (arith, within)) (λ k least most. none k (omega (arith, least)) (omega (arith, most)))
    ∙ ap (λ k. words_from node k (drop k words)) (moved at n)
  where
    moved : (k l : ℕ) → k + 1 + l ≡ k + suc l
    moved k l = omega arith

-- those before the next that is not 0 have none
pub words-between : (node from at : ℕ) (words : List ℕ) → from ≤ at → at ≤ length words → ((k : ℕ) → from ≤ k → k < at → slice_index words k ≡ 0)
    → words_from node from (drop from words) ≡ words_from node at (drop at words)
words-between node from at words least most none =
    let n = at - from in
    let is : from + n ≡ at = omega (arith, least) in
    zeros-run node from n words (omega (arith, is, most)) (λ k low high. none k low (omega (arith, is, high)))
    ∙ ap (λ k. words_from node k (drop k words)) is

pub words-none : (node at : ℕ) (words : List ℕ) → length words ≤ at → words_from node at (drop at words) ≡ []
words-none node at words past = ap (words_from node at) (drop_all at words past)

-- Node by node.

pub nodes-step : (node : ℕ) (nodes : List (List ℕ)) → node < length nodes
    → nodes_from node (drop node nodes) ≡ words_from node 0 (words_on nodes node) ++ nodes_from (node + 1) (drop (node + 1) nodes)
nodes-step node nodes within = rw (drop-cons nodes node [] within, add-one) refl

pub nodes-text : (node : ℕ) (nodes : List (List ℕ)) (tail : List OutLine) → node < length nodes
    → text_of (nodes_from node (drop node nodes) ++ tail) ≡ text_of (words_from node 0 (words_on nodes node)) ++ text_of (nodes_from (node + 1) (drop (node + 1) nodes) ++ tail)
nodes-text node nodes tail within =
    let here = words_from node 0 (words_on nodes node) in
    let rest = nodes_from (node + 1) (drop (node + 1) nodes) in
    ap (λ lines. text_of (lines ++ tail)) (nodes-step node nodes within) ∙ ap text_of (append_assoc here rest tail) ∙ text_of-append here (rest ++ tail)

pub nodes-length : (node : ℕ) (nodes : List (List ℕ)) → node < length nodes
    → length (nodes_from node (drop node nodes)) ≡ length (words_from node 0 (words_on nodes node)) + length (nodes_from (node + 1) (drop (node + 1) nodes))
nodes-length node nodes within = ap length (nodes-step node nodes within) ∙ length-append (words_from node 0 (words_on nodes node)) (nodes_from (node + 1) (drop (node + 1) nodes))

pub nodes-none : (node : ℕ) (nodes : List (List ℕ)) → length nodes ≤ node → nodes_from node (drop node nodes) ≡ []
nodes-none node nodes past = ap (nodes_from node) (drop_all node nodes past)

-- how many lines are left once the dump is at its end, and what its last line says
pub dump-ends : (node dumped total : ℕ) (nodes : List (List ℕ)) → length nodes ≤ node → dumped + length (nodes_from node (drop node nodes)) ≡ total
    → text_of (nodes_from node (drop node nodes) ++ out.Dumped total ∷ []) ≡ line_text (out.Dumped dumped)
dump-ends node dumped total nodes past count =
    let none = nodes-none node nodes past in
    let all : total ≡ dumped = omega (arith, count, ap length none) in
    ap (λ lines. text_of (lines ++ out.Dumped total ∷ [])) none ∙ text_of-one (out.Dumped total) ∙ ap (λ n. line_text (out.Dumped n)) all

-- Histories.

map_twice : {X Y Z : Type 0} (f : Y → Z) (g : X → Y) (xs : List X) → map (λ x. f (g x)) xs ≡ map f (map g xs)
map_twice f g [] = refl
map_twice f g (x ∷ xs) = ap (λ rest. f (g x) ∷ rest) (map_twice f g xs)

begun : {n m : ℕ} {xs ys : List OutLine} → n ≡ m → xs ≡ ys → line_text (out.History n) ++ text_of xs ≡ line_text (out.History m) ++ text_of ys
begun p q = λ i. line_text (out.History (p i)) ++ text_of (q i)

pub history-text : {X : Type 0} (world : World) (entered : X → Entered) (order : List X) → map entered order ≡ in_order world.ledger.entries
    → line_text (out.History (length order)) ++ text_of (map (λ one. entry_line (entry_of world (entered one))) order) ≡ text_of (history_lines world)
unfolding history_of
history-text world entered order same =
    let line : Entered → OutLine = λ one. entry_line (entry_of world one) in
    let entries = in_order world.ledger.entries in
    begun (sym (length-map order entered)) (map_twice line entered order)
    ∙ ap (λ es. line_text (out.History (length es)) ++ text_of (map line es)) same
    ∙ begun (sym (length-map entries (entry_of world))) (map_twice entry_line (entry_of world) entries)

-- an entry, and the entries after it
pub entries-step : {X : Type 0} (line : X → OutLine) (order : List X) (i : ℕ) (one : X) → i < length order → one ≡ get_or order i one
    → text_of (map line (drop i order)) ≡ line_text (line one) ++ text_of (map line (drop (i + 1) order))
entries-step line order i one within is =
    let next : suc i ≡ i + 1 = omega arith in
    ap (λ ones. text_of (map line ones)) (drop-cons order i one within ∙ ap (λ o. o ∷ drop (suc i) order) (sym is))
    ∙ ap (λ n. line_text (line one) ++ text_of (map line (drop n order))) next
