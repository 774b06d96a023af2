-- The keys of entries: each stands there once, and no other key has a value.
use Rattle.std.proofs.Common.{◌≡◌, ◌≢◌, ℕ, zero, suc, ◌<◌, Bool, true, false, ◌||◌, List, [], ◌∷◌, length, Some, None, bytes_eq, if◌then◌else◌, refl, sym, ap, ◌∙◌, arith}
use Rattle.std.specs.Prelude.{All, AllPairs, Contains}
use Rattle.std.specs.List.{list_any}
use Rattle.std.proofs.lemmas.List.Elements.{All-cons, All-nil}
use Rattle.std.proofs.lemmas.List.Kept.{AllPairs-cons}
use Rattle.std.proofs.lemmas.Slice.Eq.{bytes_eq-Decides}
use Rattle.machine_world.specs.Calls.{key_of}
use Rattle.map_model.specs.Map.{Map, after, empty_map, map_after}
use Rattle.map_model.specs.declared.calls.Call.{Call}
use Rattle.map_model.specs.declared.calls.Call.TheVariants.{Put, Delete}
use Rattle.map_model.specs.declared.calls.Reply.{Reply}
use Rattle.map_model.specs.declared.calls.Reply.TheVariants.{Done}
use Rattle.map_model.specs.declared.entries.Entry.{Entry}
use Rattle.sim_meaning.specs.Summary.{has_key, keys_in}

neither : (one other : Bool) → (one || other) ≡ false → (one ≡ false) × (other ≡ false)
neither true other is = absurd cc
neither false other is = (refl, is)

-- a call of another key leaves what is at a key
after-other : (map : Map) (call : Call) (reply : Reply) (key : List ℕ) → bytes_eq (key_of call) key ≡ false → after map call reply key ≡ map key
after-other map (Put own value) Done key other = rw other refl
after-other map (Delete own) Done key other = rw other refl
after-other map call reply key other = refl

pub map_after-other : (map : Map) (entries : List Entry) (key : List ℕ) → list_any (has_key key) entries ≡ false → map_after map entries key ≡ map key
map_after-other map [] key none = refl
map_after-other map (entry ∷ entries) key none =
    let both = neither (bytes_eq (key_of entry.call) key) (list_any (has_key key) entries) none in
    map_after-other (after map entry.call entry.reply) entries key both.1 ∙ after-other map entry.call entry.reply key both.0

first_of_all : (key own : List ℕ) (keys : List (List ℕ)) → own ≡ key → Contains (own ∷ keys) key
first_of_all key own keys same = (zero, omega arith, same)

later_of_all : (key own : List ℕ) (keys : List (List ℕ)) → Contains keys key → Contains (own ∷ keys) key
later_of_all key own keys found = (suc found.0, below found.0 (length keys) found.1, found.2)
  where
    below : (at size : ℕ) → at < size → suc at < suc size
    below at size less = omega arith

-- a key that an entry has is among the keys
keys_in-all : (entries : List Entry) (key : List ℕ) → list_any (has_key key) entries ≡ true → Contains (keys_in entries) key
keys_in-all [] key some = absurd cc
keys_in-all (entry ∷ entries) key some = cases (list_any (has_key own) entries) refl (bytes_eq own key) refl (keys_in-all entries key)
  where
    own : List ℕ
    own = key_of entry.call

    others : bytes_eq own key ≡ false → list_any (has_key key) entries ≡ true
    others other = ap (λ test. test || list_any (has_key key) entries) (sym other) ∙ some

    cases : (again : Bool) → list_any (has_key own) entries ≡ again → (same : Bool) → bytes_eq own key ≡ same
        → (list_any (has_key key) entries ≡ true → Contains (keys_in entries) key)
        → Contains (if again then keys_in entries else own ∷ keys_in entries) key
    cases true again true same rest = rest (ap (λ other. list_any (has_key other) entries) (sym ((bytes_eq-Decides own key).0 same)) ∙ again)
    cases true again false same rest = rest (others same)
    cases false again true same rest = first_of_all key own (keys_in entries) ((bytes_eq-Decides own key).0 same)
    cases false again false same rest = later_of_all key own (keys_in entries) (rest (others same))

-- a key with a value is among the keys
pub values-counted : (entries : List Entry) (key value : List ℕ) → map_after empty_map entries key ≡ Some value → Contains (keys_in entries) key
values-counted entries key value there = cases (list_any (has_key key) entries) refl
  where
    cases : (some : Bool) → list_any (has_key key) entries ≡ some → Contains (keys_in entries) key
    cases true some = keys_in-all entries key some
    cases false none = let nothing : None ≡ Some value = sym (map_after-other empty_map entries key none) ∙ there in absurd cc

-- a key that no entry has is none of the keys
keys_in-other : (entries : List Entry) (key : List ℕ) → list_any (has_key key) entries ≡ false → All (λ other. key ≢ other) (keys_in entries)
keys_in-other [] key none = All-nil (λ other. key ≢ other)
keys_in-other (entry ∷ entries) key none =
    let both = neither (bytes_eq (key_of entry.call) key) (list_any (has_key key) entries) none in
    cases (list_any (has_key (key_of entry.call)) entries) both.0 (keys_in-other entries key both.1)
  where
    cases : (again : Bool) → bytes_eq (key_of entry.call) key ≡ false → All (λ other. key ≢ other) (keys_in entries) → All (λ other. key ≢ other) (if again then keys_in entries else key_of entry.call ∷ keys_in entries)
    cases true other others = others
    cases false other others =
        All-cons (λ other. key ≢ other) (key_of entry.call) (keys_in entries)
        (λ same. let equal = (bytes_eq-Decides (key_of entry.call) key).1 (sym same) in absurd cc) others

-- each key stands there once
pub keys_in-different : (entries : List Entry) → AllPairs (λ one other. one ≢ other) (keys_in entries)
keys_in-different [] = λ i j d before within. absurd (omega arith)
keys_in-different (entry ∷ entries) = cases (list_any (has_key (key_of entry.call)) entries) refl (keys_in-different entries)
  where
    cases : (again : Bool) → list_any (has_key (key_of entry.call)) entries ≡ again → AllPairs (λ one other. one ≢ other) (keys_in entries)
        → AllPairs (λ one other. one ≢ other) (if again then keys_in entries else key_of entry.call ∷ keys_in entries)
    cases true again different = different
    cases false again different =
        AllPairs-cons (λ one other. one ≢ other) (key_of entry.call) (keys_in entries) (keys_in-other entries (key_of entry.call) again) different
