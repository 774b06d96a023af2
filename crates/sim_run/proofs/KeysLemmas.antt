-- The entries that leave a value at their key are as many as the keys that have one.
use Rattle.std.proofs.Common.{◌≡◌, ℕ, zero, suc, ◌+◌, ◌-◌, ◌<◌, ◌≤◌, length, drop, get_or, Bool, true, false, ◌&&◌, ◌||◌, List, [], ◌∷◌, Option, Some, None, bytes_eq, if◌then◌else◌, map, refl, sym, ap, ◌∙◌, arith}
use Rattle.std.specs.Prelude.{count_by, is_none, is_some}
use Rattle.std.specs.List.{list_any}
use Rattle.std.proofs.Math.Seq.{drop-cons}
use Rattle.std.proofs.lemmas.Simd.{map-map}
use Rattle.std.proofs.lemmas.Slice.Eq.{bytes_eq-Decides}
use Rattle.machine_world.specs.Calls.{key_of}
use Rattle.machine_world.specs.Ledger.{entry_of, history_of, in_order}
use Rattle.machine_world.specs.World.{World}
use Rattle.map_model.specs.Map.{Map, after, empty_map, map_after}
use Rattle.map_model.specs.declared.calls.Call.{Call}
use Rattle.map_model.specs.declared.calls.Call.TheVariants.{Put, Delete}
use Rattle.map_model.specs.declared.calls.Reply.{Reply}
use Rattle.map_model.specs.declared.calls.Reply.TheVariants.{Done}
use Rattle.map_model.specs.declared.entries.Entry.{Entry}
use Rattle.sim_meaning.proofs.KeyLemmas.{map_after-other}
use Rattle.sim_meaning.specs.Summary.{has_key, keys_in, values_after}
use Rattle.sim_run.proofs.CountLemmas.{count-cons}
use Rattle.sim_run.specs.Keys.{decided_by, is_put, leaves_value, values_left, with_decided}
use Rattle.verb_history.specs.Points.{entered_of}
use Rattle.verb_history.specs.declared.points.Placed.{Placed}

-- What is decided of a key.

-- a call changes a key where it decides it, and then whatever was there before
decides : (call : Call) (reply : Reply) (decided map : Map) (key : List ℕ)
    → (is_none (with_decided call reply decided key) ≡ (is_none (decided key) && is_none (with_decided call reply empty_map key)))
    × (after map call reply key ≡ (if is_none (with_decided call reply empty_map key) then map key else after empty_map call reply key))
decides (Put own value) Done decided map key = by (bytes_eq own key) refl (decided key)
  where
    by : (same : Bool) → bytes_eq own key ≡ same → (there : Option (List ℕ))
        → (is_none (if same then Some value else there) ≡ (is_none there && is_none (if same then Some value else None)))
        × ((if same then Some value else map key) ≡ (if is_none (if same then Some value else None) then map key else (if same then Some value else None)))
    by true is None = (refl, refl)
    by true is (Some other) = (refl, refl)
    by false is None = (refl, refl)
    by false is (Some other) = (refl, refl)
decides (Delete own) Done decided map key = by (bytes_eq own key) refl (decided key)
  where
    by : (same : Bool) → bytes_eq own key ≡ same → (there : Option (List ℕ))
        → (is_none (if same then Some own else there) ≡ (is_none there && is_none (if same then Some own else None)))
        × ((if same then None else map key) ≡ (if is_none (if same then Some own else None) then map key else (if same then None else None)))
    by true is None = (refl, refl)
    by true is (Some other) = (refl, refl)
    by false is None = (refl, refl)
    by false is (Some other) = (refl, refl)
decides call reply decided map key = by (decided key)
  where
    by : (there : Option (List ℕ)) → (is_none there ≡ (is_none there && true)) × (map key ≡ map key)
    by None = (refl, refl)
    by (Some other) = (refl, refl)

-- what is at a key after entries: what was there before, where they decide nothing of it
settled : (entries : List Entry) (map : Map) (key : List ℕ) → map_after map entries key ≡ (if is_none (decided_by entries key) then map key else map_after empty_map entries key)
settled [] map key = refl
settled (entry ∷ entries) map key =
    let own = decides entry.call entry.reply (decided_by entries) map key in
    settled entries (after map entry.call entry.reply) key
    ∙ by (is_none (decided_by entries key)) (is_none (with_decided entry.call entry.reply empty_map key)) own.0 own.1 (settled entries (after empty_map entry.call entry.reply) key)
  where
    by : (none mine : Bool) → is_none (with_decided entry.call entry.reply (decided_by entries) key) ≡ (none && mine)
        → after map entry.call entry.reply key ≡ (if mine then map key else after empty_map entry.call entry.reply key)
        → map_after (after empty_map entry.call entry.reply) entries key ≡ (if none then after empty_map entry.call entry.reply key else map_after empty_map entries key)
        → (if none then after map entry.call entry.reply key else map_after empty_map entries key)
        ≡ (if is_none (with_decided entry.call entry.reply (decided_by entries) key) then map key else map_after (after empty_map entry.call entry.reply) entries key)
    by true true is own later = rw is own
    by true false is own later = rw is (own ∙ sym later)
    by false mine is own later = rw is (sym later)

-- Whether a key has a value.

abbrev has_value_after : List Entry → List ℕ → Bool
has_value_after entries key = is_some (map_after empty_map entries key)

put_leaves : (call : Call) (reply : Reply) (key : List ℕ) → is_some (after empty_map call reply key) ≡ (is_put call reply && bytes_eq (key_of call) key)
put_leaves (Put own value) Done key = by (bytes_eq own key)
  where
    by : (same : Bool) → is_some (if same then Some value else None) ≡ same
    by true = refl
    by false = refl
put_leaves (Delete own) Done key = by (bytes_eq own key)
  where
    nothing : Option (List ℕ)
    nothing = None

    by : (same : Bool) → is_some (if same then nothing else nothing) ≡ false
    by true = refl
    by false = refl
put_leaves call reply key = refl

-- a key has a value after an entry and others where it has one after those, or where the entry leaves it
value_split : (entry : Entry) (entries : List Entry) (key : List ℕ)
    → has_value_after (entry ∷ entries) key
    ≡ (has_value_after entries key || (leaves_value (decided_by entries) entry.call entry.reply && bytes_eq (key_of entry.call) key))
value_split entry entries key = by (bytes_eq (key_of entry.call) key) refl
  where
    or_false : (t : Bool) → (t || false) ≡ t
    or_false true = refl
    or_false false = refl

    cases : (same : Bool) (there : Option (List ℕ)) (put : Bool) → is_some (map_after (after empty_map entry.call entry.reply) entries key) ≡ is_some (if is_none there then after empty_map entry.call entry.reply key else map_after empty_map entries key)
        → is_some (map_after empty_map entries key) ≡ is_some (if is_none there then None else map_after empty_map entries key)
        → is_some (after empty_map entry.call entry.reply key) ≡ (put && same)
        → is_some (map_after (after empty_map entry.call entry.reply) entries key) ≡ (is_some (map_after empty_map entries key) || ((put && is_none there) && same))
    cases true None true all later own = all ∙ own ∙ ap (λ t. t || true) (sym later)
    cases true None false all later own = all ∙ own ∙ ap (λ t. t || false) (sym later)
    cases false None true all later own = all ∙ own ∙ ap (λ t. t || false) (sym later)
    cases false None false all later own = all ∙ own ∙ ap (λ t. t || false) (sym later)
    cases true (Some value) true all later own = all ∙ sym (or_false (is_some (map_after empty_map entries key)))
    cases true (Some value) false all later own = all ∙ sym (or_false (is_some (map_after empty_map entries key)))
    cases false (Some value) true all later own = all ∙ sym (or_false (is_some (map_after empty_map entries key)))
    cases false (Some value) false all later own = all ∙ sym (or_false (is_some (map_after empty_map entries key)))

    other : (there : Option (List ℕ)) (put none : Bool) → (is_some (map_after empty_map entries key) || ((put && is_none there) && false)) ≡ (is_some (map_after empty_map entries key) || ((put && none) && false))
    other there true none = by_none (is_none there) none
      where
        by_none : (one two : Bool) → (is_some (map_after empty_map entries key) || (one && false)) ≡ (is_some (map_after empty_map entries key) || (two && false))
        by_none true true = refl
        by_none true false = refl
        by_none false true = refl
        by_none false false = refl
    other there false none = refl

    by : (same : Bool) → bytes_eq (key_of entry.call) key ≡ same
        → has_value_after (entry ∷ entries) key ≡ (has_value_after entries key || ((is_put entry.call entry.reply && is_none (decided_by entries (key_of entry.call))) && bytes_eq (key_of entry.call) key))
    by true is =
        let equal : key_of entry.call ≡ key = (bytes_eq-Decides (key_of entry.call) key).0 is in
        cases true (decided_by entries key) (is_put entry.call entry.reply) (ap is_some (settled entries (after empty_map entry.call entry.reply) key)) (ap is_some (settled entries empty_map key))
        (put_leaves entry.call entry.reply key ∙ ap (λ t. is_put entry.call entry.reply && t) is)
        ∙ ap (λ k. has_value_after entries key || ((is_put entry.call entry.reply && is_none (decided_by entries k)) && true)) (sym equal)
        ∙ ap (λ t. has_value_after entries key || ((is_put entry.call entry.reply && is_none (decided_by entries (key_of entry.call))) && t)) (sym is)
    by false is =
        cases false (decided_by entries key) (is_put entry.call entry.reply) (ap is_some (settled entries (after empty_map entry.call entry.reply) key)) (ap is_some (settled entries empty_map key))
        (put_leaves entry.call entry.reply key ∙ ap (λ t. is_put entry.call entry.reply && t) is)
        ∙ other (decided_by entries key) (is_put entry.call entry.reply) (is_none (decided_by entries (key_of entry.call)))
        ∙ ap (λ t. has_value_after entries key || ((is_put entry.call entry.reply && is_none (decided_by entries (key_of entry.call))) && t)) (sym is)

-- a key of which nothing was decided has no value
undecided : (entries : List Entry) (key : List ℕ) → is_none (decided_by entries key) ≡ true → has_value_after entries key ≡ false
undecided entries key none = ap is_some (settled entries empty_map key ∙ ap (λ t. if t then None else map_after empty_map entries key) none)

-- Counts.

abbrev one_if : Bool → ℕ
one_if test = if test then 1 else 0

-- each key of entries stands once among the keys
counted_once : (entries : List Entry) (key : List ℕ) → count_by (bytes_eq key) (keys_in entries) ≡ one_if (list_any (has_key key) entries)
counted_once [] key = refl
counted_once (entry ∷ entries) key = by (list_any (has_key own) entries) refl (bytes_eq own key) refl (counted_once entries key)
  where
    own : List ℕ
    own = key_of entry.call

    differ : bytes_eq own key ≡ false → (t : Bool) → bytes_eq key own ≡ t → bytes_eq key own ≡ false
    differ is false other = other
    differ is true same = let bad : bytes_eq own key ≡ true = (bytes_eq-Decides own key).1 (sym ((bytes_eq-Decides key own).0 same)) in absurd cc

    by : (again : Bool) → list_any (has_key own) entries ≡ again → (same : Bool) → bytes_eq own key ≡ same
        → count_by (bytes_eq key) (keys_in entries) ≡ one_if (list_any (has_key key) entries)
        → count_by (bytes_eq key) (if again then keys_in entries else own ∷ keys_in entries) ≡ one_if (bytes_eq own key || list_any (has_key key) entries)
    by true again true same rest =
        let equal : own ≡ key = (bytes_eq-Decides own key).0 same in
        let there : one_if (list_any (has_key key) entries) ≡ 1 = ap one_if (ap (λ k. list_any (has_key k) entries) (sym equal) ∙ again) in
        let all : one_if (bytes_eq own key || list_any (has_key key) entries) ≡ 1 = ap (λ t. one_if (t || list_any (has_key key) entries)) same in
        rest ∙ there ∙ sym all
    by true again false same rest = rest ∙ ap (λ t. one_if (t || list_any (has_key key) entries)) (sym same)
    by false again true same rest =
        let equal : own ≡ key = (bytes_eq-Decides own key).0 same in
        let none : one_if (list_any (has_key key) entries) ≡ 0 = ap one_if (ap (λ k. list_any (has_key k) entries) (sym equal) ∙ again) in
        let all : one_if (bytes_eq own key || list_any (has_key key) entries) ≡ 1 = ap (λ t. one_if (t || list_any (has_key key) entries)) same in
        let first : one_if (bytes_eq key own) ≡ 1 = ap one_if ((bytes_eq-Decides key own).1 (sym equal)) in
        let sum : one_if (bytes_eq key own) + count_by (bytes_eq key) (keys_in entries) ≡ one_if (bytes_eq own key || list_any (has_key key) entries) = omega (arith, rest, none, all, first) in
        count-cons (bytes_eq key) own (keys_in entries) ∙ sum
    by false again false same rest =
        let first : one_if (bytes_eq key own) ≡ 0 = ap one_if (differ same (bytes_eq key own) refl) in
        let all : one_if (bytes_eq own key || list_any (has_key key) entries) ≡ one_if (list_any (has_key key) entries) = ap (λ t. one_if (t || list_any (has_key key) entries)) same in
        let sum : one_if (bytes_eq key own) + count_by (bytes_eq key) (keys_in entries) ≡ one_if (bytes_eq own key || list_any (has_key key) entries) = omega (arith, rest, first, all) in
        count-cons (bytes_eq key) own (keys_in entries) ∙ sum

-- where two tests are never both met
count_either : (one other : List ℕ → Bool) (keys : List (List ℕ)) → ((key : List ℕ) → (one key && other key) ≡ false) → count_by (λ key. one key || other key) keys ≡ count_by one keys + count_by other keys
count_either one other [] apart = refl
count_either one other (key ∷ keys) apart =
    count-cons (λ k. one k || other k) key keys
    ∙ by (one key) (other key) (apart key) (count_by (λ k. one k || other k) keys) (count_by one keys) (count_by other keys) (count_either one other keys apart)
    ∙ sym (λ i. count-cons one key keys i + count-cons other key keys i)
  where
    by : (t u : Bool) → (t && u) ≡ false → (x y z : ℕ) → x ≡ y + z → (if t || u then 1 else 0) + x ≡ ((if t then 1 else 0) + y) + ((if u then 1 else 0) + z)
    by true true both x y z rest = absurd cc
    by true false both x y z rest = omega (arith, rest)
    by false true both x y z rest = omega (arith, rest)
    by false false both x y z rest = omega (arith, rest)

count_same : (one other : List ℕ → Bool) (keys : List (List ℕ)) → ((key : List ℕ) → one key ≡ other key) → count_by one keys ≡ count_by other keys
count_same one other keys same = λ i. count_by (λ key. same key i) keys

count_none : (test : List ℕ → Bool) (keys : List (List ℕ)) → count_by (λ key. false && test key) keys ≡ 0
count_none test [] = refl
count_none test (key ∷ keys) = omega (arith, count-cons (λ k. false && test k) key keys, count_none test keys)

-- the keys of one entry more: those with a value after the others are counted as before
count_kept : (entry : Entry) (entries : List Entry) → count_by (has_value_after entries) (keys_in (entry ∷ entries)) ≡ count_by (has_value_after entries) (keys_in entries)
count_kept entry entries = by (list_any (has_key (key_of entry.call)) entries) refl
  where
    by : (again : Bool) → list_any (has_key (key_of entry.call)) entries ≡ again
        → count_by (has_value_after entries) (if again then keys_in entries else key_of entry.call ∷ keys_in entries) ≡ count_by (has_value_after entries) (keys_in entries)
    by true is = refl
    by false is =
        let none : one_if (has_value_after entries (key_of entry.call)) ≡ 0 = ap (λ found. one_if (is_some found)) (map_after-other empty_map entries (key_of entry.call) is) in
        let sum : one_if (has_value_after entries (key_of entry.call)) + count_by (has_value_after entries) (keys_in entries) ≡ count_by (has_value_after entries) (keys_in entries) = omega (arith, none) in
        count-cons (has_value_after entries) (key_of entry.call) (keys_in entries) ∙ sum

own_once : (entry : Entry) (entries : List Entry) → count_by (bytes_eq (key_of entry.call)) (keys_in (entry ∷ entries)) ≡ 1
own_once entry entries =
    let same : bytes_eq (key_of entry.call) (key_of entry.call) ≡ true = (bytes_eq-Decides (key_of entry.call) (key_of entry.call)).1 refl in
    counted_once (entry ∷ entries) (key_of entry.call) ∙ ap (λ t. one_if (t || list_any (has_key (key_of entry.call)) entries)) same

pub values-left : (entries : List Entry) → values_left entries ≡ values_after entries
values-left [] = refl
values-left (entry ∷ entries) =
    sym (count_same (has_value_after (entry ∷ entries)) (λ key. has_value_after entries key || (leaves && bytes_eq own key)) keys (value_split entry entries)
    ∙ count_either (has_value_after entries) (λ key. leaves && bytes_eq own key) keys apart
    ∙ by leaves refl (values-left entries))
  where
    own : List ℕ
    own = key_of entry.call

    leaves : Bool
    leaves = leaves_value (decided_by entries) entry.call entry.reply

    keys : List (List ℕ)
    keys = keys_in (entry ∷ entries)

    free : (put none : Bool) → (put && none) ≡ true → none ≡ true
    free true none is = is
    free false none is = absurd cc

    apart_at : (key : List ℕ) (t : Bool) → leaves ≡ t → (same : Bool) → bytes_eq own key ≡ same → (has_value_after entries key && (t && same)) ≡ false
    apart_at key true left true same =
        let none = free (is_put entry.call entry.reply) (is_none (decided_by entries own)) left in
        let equal : own ≡ key = (bytes_eq-Decides own key).0 same in
        rw (undecided entries key (ap (λ k. is_none (decided_by entries k)) (sym equal) ∙ none)) refl
    apart_at key true left false same = and_false (has_value_after entries key)
      where
        and_false : (t : Bool) → (t && false) ≡ false
        and_false true = refl
        and_false false = refl
    apart_at key false left same is = and_false (has_value_after entries key)
      where
        and_false : (t : Bool) → (t && false) ≡ false
        and_false true = refl
        and_false false = refl

    apart : (key : List ℕ) → (has_value_after entries key && (leaves && bytes_eq own key)) ≡ false
    apart key = apart_at key leaves refl (bytes_eq own key) refl

    by : (t : Bool) → leaves ≡ t → values_left entries ≡ values_after entries → count_by (has_value_after entries) keys + count_by (λ key. t && bytes_eq own key) keys ≡ (if t then 1 else 0) + values_left entries
    by true is rest = omega (arith, count_kept entry entries, own_once entry entries, rest)
    by false is rest = omega (arith, count_kept entry entries, count_none (bytes_eq own) keys, rest)

-- Which calls have returned does not matter.

decided-unmarked : {X : Type 0} (world : World) (placed : X → Placed) (order : List X) → decided_by (map (λ one. entry_of world (entered_of (placed one))) order) ≡ decided_by (map (λ one. (placed one).entry) order)
decided-unmarked world placed [] = refl
decided-unmarked world placed (one ∷ order) = ap (with_decided (placed one).entry.call (placed one).entry.reply) (decided-unmarked world placed order)

values_left-unmarked : {X : Type 0} (world : World) (placed : X → Placed) (order : List X) → values_left (map (λ one. entry_of world (entered_of (placed one))) order) ≡ values_left (map (λ one. (placed one).entry) order)
values_left-unmarked world placed [] = refl
values_left-unmarked world placed (one ∷ order) =
    λ i. (if leaves_value (decided-unmarked world placed order i) (placed one).entry.call (placed one).entry.reply then 1 else 0) + values_left-unmarked world placed order i

values_after-unmarked : {X : Type 0} (world : World) (placed : X → Placed) (order : List X) → values_after (map (λ one. entry_of world (entered_of (placed one))) order) ≡ values_after (map (λ one. (placed one).entry) order)
values_after-unmarked world placed order =
    sym (values-left (map (λ one. entry_of world (entered_of (placed one))) order)) ∙ values_left-unmarked world placed order ∙ values-left (map (λ one. (placed one).entry) order)

-- the calls of a history in their order leave as many values as the history
pub values_after-in_order : {X : Type 0} (world : World) (placed : X → Placed) (order : List X) → map (λ one. entered_of (placed one)) order ≡ in_order world.ledger.entries
    → values_after (map (λ one. (placed one).entry) order) ≡ values_after (history_of world)
unfolding history_of
values_after-in_order world placed order is =
    sym (values_after-unmarked world placed order) ∙ ap values_after (sym (map-map (entry_of world) (λ one. entered_of (placed one)) order) ∙ ap (map (entry_of world)) is)

-- From the last entry on.

drop-back : (entries : List Entry) (i : ℕ) (entry : Entry) → 0 < i → i ≤ length entries → entry ≡ get_or entries (i - 1) entry → drop (i - 1) entries ≡ entry ∷ drop i entries
drop-back entries zero entry some within is = absurd (omega arith)
drop-back entries (suc i) entry some within is =
    let same : suc i - 1 ≡ i = omega arith in
    ap (λ n. drop n entries) same ∙ drop-cons entries i entry (omega arith) ∙ ap (λ e. e ∷ drop (suc i) entries) (sym (is ∙ ap (λ n. get_or entries n entry) same))

pub decided-back : (entries : List Entry) (i : ℕ) (entry : Entry) (map now : Map) → 0 < i → i ≤ length entries → entry ≡ get_or entries (i - 1) entry → map ≡ decided_by (drop i entries)
    → now ≡ with_decided entry.call entry.reply map → now ≡ decided_by (drop (i - 1) entries)
decided-back entries i entry map now some within is before after =
    after ∙ ap (with_decided entry.call entry.reply) before ∙ sym (ap decided_by (drop-back entries i entry some within is))

pub left-back : (entries : List Entry) (i : ℕ) (entry : Entry) (map : Map) (count more : ℕ) → 0 < i → i ≤ length entries → entry ≡ get_or entries (i - 1) entry → map ≡ decided_by (drop i entries)
    → count ≡ values_left (drop i entries) → more ≡ (if leaves_value map entry.call entry.reply then 1 else 0) → count + more ≡ values_left (drop (i - 1) entries)
left-back entries i entry map count more some within is before counted one =
    let same : more ≡ (if leaves_value (decided_by (drop i entries)) entry.call entry.reply then 1 else 0) = one ∙ ap (λ m. if leaves_value m entry.call entry.reply then 1 else 0) before in
    let back = ap values_left (drop-back entries i entry some within is) in
    omega (arith, counted, same, back)
