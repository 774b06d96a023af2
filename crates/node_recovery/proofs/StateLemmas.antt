-- What is at hand of a settling.
use Rattle.std.proofs.Common.{◌≡◌, ℕ, ◌+◌, ◌<◌, ◌≤◌, nat_lt, Bool, true, false, List, length, refl, sym, ap, subst, ◌∙◌, arith}
use Rattle.std.specs.Prelude.{slice_index_or}
use Rattle.std.proofs.lemmas.Bool.{lt-ltb}
use Rattle.std.proofs.lemmas.Bool.Decides.{nat_tests}
use Rattle.std.specs.Option.{option_map_or}
use Rattle.machine.specs.Copying.{copied_words, read_place_of, sources_of, written_places_of}
use Rattle.machine.proofs.CopyingLemmas.{sources_of-within, written_places_of-few}
use Rattle.machine.specs.EpochRead.{leaves_none_bare}
use Rattle.machine.specs.Places.{IsInPool}
use Rattle.machine.specs.Settling.{IsAt, IsCopying, Phase, ReadEpoch, Seal, ReadBegin, ReadPause, ReadStatus, ReadWord, WriteWord, Open, Settling, goes_to, next, next_view, next_word, place_of_pair, source_view, targets, verb_at, writes_from}
use Rattle.machine.proofs.SettlingKept.{next-inside}
use Rattle.node_join.proofs.MaskLemmas.{leaves_none_bare-says}
use Rattle.region_view.specs.Placed.{LeavesNoneBare, in_mask, placed_node}
use Rattle.region_view.specs.Sizes.{Sizes}
use Rattle.verb_words.specs.declared.verbs.Place.{Place}
use Rattle.verb_words.specs.declared.verbs.Verb.{Verb}
use Rattle.verb_words.specs.declared.verbs.Verb.TheVariants.{Write}
use Rattle.verb_words.specs.Verb.{place_of}
use Rattle.node_recovery.specs.Settlings.{CopiesWord, HasTargets, IsHeld, at_word, word_after}

-- the verb that is due goes to a place of the pool
pub due-inside : (settling now : Settling) (from : ℕ × ℕ) (to : List (ℕ × ℕ)) (verb : Verb) → IsHeld settling from to → settling ≡ now → verb ≡ next now → IsInPool now.shape (place_of verb)
due-inside settling now from to verb held is due =
    let Q : Settling → Type 0 = λ s. IsInPool s.shape (place_of (next s)) in
    let P : Verb → Type 0 = λ v. IsInPool now.shape (place_of v) in
    let inside : Q settling = next-inside settling.shape settling held.state in
    subst P (sym due) (subst Q is inside)

-- the place at hand of a word that is written
pub target-due : (settling now : Settling) (from : ℕ × ℕ) (to items : List (ℕ × ℕ)) (word target : ℕ) (place : Place) → IsHeld settling from to → settling ≡ now → settling.phase ≡ WriteWord word target → items ≡ to
    → place ≡ place_of_pair (slice_index_or items target (0, 0)) → Write place word ≡ next now
target-due settling now from to items word target place held is at same here =
    let P : Settling → Type 0 = λ s. Write place word ≡ next s in
    let Q : Phase → Type 0 = λ p. Write place word ≡ verb_at p settling in
    let H : Phase → Type 0 = λ p. HasTargets p settling from to in
    let hand : to ≡ targets settling = subst H at held.at_hand in
    let due : Q (WriteWord word target) = ap (λ p. Write p word) (here ∙ ap (λ l. place_of_pair (slice_index_or l target (0, 0))) (same ∙ hand)) in
    let here : P settling = subst Q (sym at) due in
    subst P is here

-- while a word is copied
copying_at : (phase : Phase) (settling : Settling) → CopiesWord phase → IsAt phase settling → IsCopying settling
copying_at ReadEpoch settling copies at = absurd copies
copying_at Seal settling copies at = absurd copies
copying_at (ReadBegin client) settling copies at = absurd copies
copying_at (ReadPause client begin) settling copies at = absurd copies
copying_at (ReadStatus node live) settling copies at = absurd copies
copying_at ReadWord settling copies at = at
copying_at (WriteWord word target) settling copies at = at.0
copying_at Open settling copies at = absurd copies

pub held-copying : (settling : Settling) (from : ℕ × ℕ) (to : List (ℕ × ℕ)) → IsHeld settling from to → CopiesWord settling.phase → IsCopying settling
held-copying settling from to held copies = copying_at settling.phase settling copies held.state.phase

targets_at : (phase : Phase) (settling : Settling) (from : ℕ × ℕ) (to : List (ℕ × ℕ)) → CopiesWord phase → HasTargets phase settling from to → to ≡ targets settling
targets_at ReadEpoch settling from to copies has = absurd copies
targets_at Seal settling from to copies has = absurd copies
targets_at (ReadBegin client) settling from to copies has = absurd copies
targets_at (ReadPause client begin) settling from to copies has = absurd copies
targets_at (ReadStatus node live) settling from to copies has = absurd copies
targets_at ReadWord settling from to copies has = has.1
targets_at (WriteWord word target) settling from to copies has = has
targets_at Open settling from to copies has = absurd copies

pub held-targets : (settling : Settling) (from : ℕ × ℕ) (to : List (ℕ × ℕ)) → IsHeld settling from to → CopiesWord settling.phase → to ≡ targets settling
held-targets settling from to held copies = targets_at settling.phase settling from to copies held.at_hand

-- a mask that has all sources leaves no region bare either
pub fresh-covers : (sizes : Sizes) (sources mask : ℕ) → leaves_none_bare sizes sources ≡ true → ((node : ℕ) → in_mask sources node ≡ true → in_mask mask node ≡ true) → LeavesNoneBare sizes mask
fresh-covers sizes sources mask covers within region below =
    let has = leaves_none_bare-says sizes sources covers region below in
    (has.0, has.1, within (placed_node sizes region has.0) has.2)

-- each source is in the next view's mask
pub sources-within : (sources old live : ℕ) → sources ≡ sources_of old live → (node : ℕ) → in_mask sources node ≡ true → in_mask live node ≡ true
sources-within sources old live is node has = sources_of-within old live node (subst (λ m. in_mask m node ≡ true) is has)

-- a word is read whose places are at hand
pub reading-held : (settling : Settling) (from place : ℕ × ℕ) (to places : List (ℕ × ℕ)) (sources mask region offset : ℕ) → IsHeld settling from to → leaves_none_bare settling.shape sources ≡ true
    → ((node : ℕ) → in_mask sources node ≡ true → in_mask mask node ≡ true) → region ≤ settling.shape.regions → offset < copied_words settling.shape region
    → place ≡ read_place_of (record { shape = settling.shape; mask = sources }) region offset
    → places ≡ written_places_of (record { shape = settling.shape; mask = sources }) (record { shape = settling.shape; mask = mask }) region offset
    → IsHeld (record settling { sources = sources; mask = mask; region = region; offset = offset; phase = ReadWord }) place places
reading-held settling from place to places sources mask region offset held covers within is_region is_offset is_place are = record {
  state = record { same_shape = refl; limits = held.state.limits; phase = record { covers = covers; within = within; region = is_region; offset = is_offset } };
  at_hand = (is_place, are);
  waits = tt;
}

-- the next word by the one after
pub next_word-is : (settling : Settling) → next_word settling ≡ option_map_or (λ (word : ℕ × ℕ). goes_to (at_word settling word.0 word.1) ReadWord) (word_after settling.shape settling.region settling.offset) (goes_to settling Open)
next_word-is settling = by (nat_lt (settling.offset + 1) (copied_words settling.shape settling.region)) (nat_lt settling.region settling.shape.regions) refl refl
  where
    by : (more regions : Bool) → nat_lt (settling.offset + 1) (copied_words settling.shape settling.region) ≡ more → nat_lt settling.region settling.shape.regions ≡ regions
        → next_word settling ≡ option_map_or (λ (word : ℕ × ℕ). goes_to (at_word settling word.0 word.1) ReadWord) (word_after settling.shape settling.region settling.offset) (goes_to settling Open)
    by true regions is are = rw is refl
    by false true is are = rw (is, are) refl
    by false false is are = rw (is, are) refl

-- a word has few places
pub writing-few : (settling : Settling) (from : ℕ × ℕ) (to : List (ℕ × ℕ)) (word target : ℕ) → IsHeld settling from to → settling.phase ≡ WriteWord word target → target < 10
writing-few settling from to word target held at =
    let P : Phase → Type 0 = λ p. IsAt p settling in
    let here : IsAt (WriteWord word target) settling = subst P at held.state.phase in
    omega (arith, here.1, written_places_of-few (source_view settling) (next_view settling) settling.region settling.offset held.state.limits)

-- the word goes to the next of its places at hand
pub writes-more : (settling now : Settling) (from : ℕ × ℕ) (to : List (ℕ × ℕ)) (word target len : ℕ) → IsHeld settling from to → settling ≡ now → CopiesWord now.phase → len ≡ length to → target < len
    → record settling { phase = WriteWord word target } ≡ (writes_from now word target).state
writes-more settling now from to word target len held is copies long below =
    let P : Settling → Type 0 = λ s. record settling { phase = WriteWord word target } ≡ (writes_from s word target).state in
    let C : Settling → Type 0 = λ s. CopiesWord s.phase in
    let same : to ≡ targets settling = held-targets settling from to held (subst C (sym is) copies) in
    let more : nat_lt target (length (targets settling)) ≡ true = lt-ltb _ _ (omega (arith, ap length same, long, below)) in
    let here : P settling = rw more refl in
    subst P is here

-- after the last of them the next word is read
pub writes-last : (settling now result : Settling) (from : ℕ × ℕ) (to : List (ℕ × ℕ)) (word target len : ℕ) → IsHeld settling from to → settling ≡ now → CopiesWord now.phase → len ≡ length to → len ≤ target
    → result ≡ (next_word now).state → result ≡ (writes_from now word target).state
writes-last settling now result from to word target len held is copies long last goes =
    let P : Settling → Type 0 = λ s. (next_word s).state ≡ (writes_from s word target).state in
    let C : Settling → Type 0 = λ s. CopiesWord s.phase in
    let same : to ≡ targets settling = held-targets settling from to held (subst C (sym is) copies) in
    let few = ap length same in
    let none : nat_lt target (length (targets settling)) ≡ false = grind (arith, nat_tests) in
    let here : P settling = rw none refl in
    goes ∙ subst P is here
