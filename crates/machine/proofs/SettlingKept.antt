-- A settling stays one, and its verbs go to places of the pool.
use Rattle.std.proofs.Common.{◌≡◌, ℕ, zero, suc, ◌+◌, ◌-◌, ◌^◌, ◌<◌, ◌≤◌, ◌==◌, Bool, true, false, cond, Option, Some, None, length, refl, arith, subst}
use Rattle.std.specs.Prelude.{nat_lt}
use Rattle.std.proofs.lemmas.Bool.Decides.{nat_tests}
use Rattle.machine.specs.Copying.{copied_words, sources_of}
use Rattle.machine.specs.EpochRead.{IsView, leaves_none_bare, open_mask}
use Rattle.machine.specs.Places.{IsInPool}
use Rattle.machine.specs.Settling.{IsAt, IsClient, IsCopying, IsSettling, Settling, Phase, ReadEpoch, Seal, ReadBegin, ReadPause, ReadStatus, ReadWord, WriteWord, Open, after_client, copies_to, is_out, next, next_view, next_word, old_mask, on_begin, on_epoch, on_pause, on_status, settling_of, source_view, targets, turn, turn_at, verb_at, with_status, writes_from}
use Rattle.machine.proofs.CopyingLemmas.{place-inside, read_place_of-inside, sources_of-within, written_places_of-inside}
use Rattle.machine.proofs.PlacesLemmas.{control-inside}
use Rattle.region_view.specs.Control.{EpochWord, Status, Begin, Pause}
use Rattle.region_view.specs.Sizes.{IsWithinLimits, Sizes}
use Rattle.verb_words.specs.declared.verbs.Answer.{Answer}
use Rattle.verb_words.specs.declared.verbs.Answer.TheVariants.{Word, Done, Lost}
use Rattle.verb_words.specs.Verb.{place_of}

pub settling_of-is : (sizes : Sizes) (stopped : ℕ) → IsWithinLimits sizes → IsSettling sizes (settling_of sizes stopped)
settling_of-is sizes stopped limits = record { same_shape = refl; limits = limits; phase = tt }

-- the first client and the first node are asked
asks_first : (s : Sizes) (settling : Settling) → IsSettling s settling → IsSettling s (record settling { phase = ReadBegin 1 })
asks_first s settling is = record { same_shape = is.same_shape; limits = is.limits; phase = (omega arith, is.limits.clients.0) }

asks_nodes : (s : Sizes) (settling : Settling) → IsSettling s settling → IsSettling s (record settling { phase = ReadStatus 1 0 })
asks_nodes s settling is = record { same_shape = is.same_shape; limits = is.limits; phase = (omega arith, is.limits.nodes.0, omega arith) }

on_epoch-is : (s : Sizes) (settling : Settling) (found : ℕ) → IsSettling s settling → IsSettling s (on_epoch settling found).state
on_epoch-is s settling found is = by (open_mask settling.shape found) refl
  where
    by : (mask : Option ℕ) → open_mask settling.shape found ≡ mask → IsSettling s (on_epoch settling found).state
    by None at = rw at (record { same_shape = is.same_shape; limits = is.limits; phase = (omega arith, is.limits.clients.0) })
    by (Some mask) at = rw at (record { same_shape = is.same_shape; limits = is.limits; phase = tt })

after_client-is : (s : Sizes) (settling : Settling) (client : ℕ) → IsSettling s settling → IsSettling s (after_client settling client).state
after_client-is s settling client is = by (nat_lt client settling.shape.clients) refl
  where
    by : (t : Bool) → nat_lt client settling.shape.clients ≡ t → IsSettling s (after_client settling client).state
    by true more = rw more (record { same_shape = is.same_shape; limits = is.limits; phase = (omega arith, grind (arith, nat_tests)) })
    by false last = rw last (asks_nodes s settling is)

on_begin-is : (s : Sizes) (settling : Settling) (client found : ℕ) → IsSettling s settling → IsClient settling.shape client → IsSettling s (on_begin settling client found).state
on_begin-is s settling client found is here = by (is_out settling client found) refl
  where
    by : (t : Bool) → is_out settling client found ≡ t → IsSettling s (on_begin settling client found).state
    by true out = rw out (after_client-is s settling client is)
    by false inside = rw inside (record { same_shape = is.same_shape; limits = is.limits; phase = here })

on_pause-is : (s : Sizes) (settling : Settling) (client begin found : ℕ) → IsSettling s settling → IsClient settling.shape client → IsSettling s (on_pause settling client begin found).state
on_pause-is s settling client begin found is here = by (found == settling.sealed) refl
  where
    by : (t : Bool) → (found == settling.sealed) ≡ t → IsSettling s (on_pause settling client begin found).state
    by true paused = rw paused (after_client-is s settling client is)
    by false inside = rw inside (record { same_shape = is.same_shape; limits = is.limits; phase = here })

-- one node more
with_status-lt : (node live found : ℕ) → 1 ≤ node → live < 2 ^ (node - 1) → with_status live node found < 2 ^ (node + 1 - 1)
with_status-lt node live found some below = let same : node + 1 - 1 ≡ node = omega arith in rw same (by (found == 0))
  where
    more : 2 ^ node ≡ 2 ^ (node - 1) + 2 ^ (node - 1)
    more = twice node some
      where
        twice : (n : ℕ) → 1 ≤ n → 2 ^ n ≡ 2 ^ (n - 1) + 2 ^ (n - 1)
        twice zero least = absurd (omega arith)
        twice (suc n) least = let before : suc n - 1 ≡ n = omega arith in rw before (omega arith)

    by : (t : Bool) → cond t (live + 2 ^ (node - 1)) live < 2 ^ node
    by true = omega (arith, more)
    by false = omega (arith, more)

copies_to-is : (s : Sizes) (settling : Settling) (live : ℕ) → IsSettling s settling → IsSettling s (copies_to settling live).state
copies_to-is s settling live is = by (leaves_none_bare settling.shape (sources_of (old_mask settling) live)) refl
  where
    by : (t : Bool) → leaves_none_bare settling.shape (sources_of (old_mask settling) live) ≡ t → IsSettling s (copies_to settling live).state
    by true covers = rw covers (record {
      same_shape = is.same_shape;
      limits = is.limits;
      phase = record {
        covers = covers;
        within = sources_of-within (old_mask settling) live;
        region = omega arith;
        offset = let some = is.limits.groups in omega arith;
      };
    })
    by false bare = rw bare (record { same_shape = is.same_shape; limits = is.limits; phase = tt })

on_status-is : (s : Sizes) (settling : Settling) (node live found : ℕ) → IsSettling s settling → 1 ≤ node → live < 2 ^ (node - 1) → IsSettling s (on_status settling node live found).state
on_status-is s settling node live found is least below = by (nat_lt node settling.shape.nodes) refl
  where
    by : (t : Bool) → nat_lt node settling.shape.nodes ≡ t → IsSettling s (on_status settling node live found).state
    by true more = rw more (record { same_shape = is.same_shape; limits = is.limits; phase = (omega arith, grind (arith, nat_tests), with_status-lt node live found least below) })
    by false last = rw last (copies_to-is s settling (with_status live node found) is)

-- each region has a word that is copied
copied_words-some : (sizes : Sizes) (region : ℕ) → 1 ≤ region → 0 < copied_words sizes region
copied_words-some sizes zero some = absurd (omega arith)
copied_words-some sizes (suc region) some =
    let data_region : (suc region == 0) ≡ false = grind (arith, nat_tests) in
    rw data_region (omega arith)

next_word-is : (s : Sizes) (settling : Settling) → IsSettling s settling → IsCopying settling → IsSettling s (next_word settling).state
next_word-is s settling is copies = by (nat_lt (settling.offset + 1) (copied_words settling.shape settling.region)) refl (nat_lt settling.region settling.shape.regions) refl
  where
    by : (t : Bool) → nat_lt (settling.offset + 1) (copied_words settling.shape settling.region) ≡ t
        → (u : Bool) → nat_lt settling.region settling.shape.regions ≡ u → IsSettling s (next_word settling).state
    by true more u region = rw more (record {
      same_shape = is.same_shape;
      limits = is.limits;
      phase = record { covers = copies.covers; within = copies.within; region = copies.region; offset = grind (arith, nat_tests) };
    })
    by false last true region = rw (last, region) (record {
      same_shape = is.same_shape;
      limits = is.limits;
      phase = record {
        covers = copies.covers;
        within = copies.within;
        region = grind (arith, nat_tests);
        offset = copied_words-some settling.shape (settling.region + 1) (omega arith);
      };
    })
    by false last false region = rw (last, region) (record { same_shape = is.same_shape; limits = is.limits; phase = tt })

copying_at : (settling : Settling) (phase : Phase) → IsCopying settling → IsCopying (record settling { phase = phase })
copying_at settling phase is = record { covers = is.covers; within = is.within; region = is.region; offset = is.offset }

writes_from-is : (s : Sizes) (settling : Settling) (word target : ℕ) → IsSettling s settling → IsCopying settling → IsSettling s (writes_from settling word target).state
writes_from-is s settling word target is copies = by (nat_lt target (length (targets settling))) refl
  where
    by : (t : Bool) → nat_lt target (length (targets settling)) ≡ t → IsSettling s (writes_from settling word target).state
    by true more = rw more (record { same_shape = is.same_shape; limits = is.limits; phase = (copying_at settling (WriteWord word target) copies, grind (arith, nat_tests)) })
    by false last = rw last (next_word-is s settling is copies)

turn_at-is : (s : Sizes) (phase : Phase) (settling : Settling) (answer : Answer) → IsSettling s settling → IsAt phase settling → IsSettling s (turn_at phase settling answer).state
turn_at-is s ReadEpoch settling (Word found) is at = on_epoch-is s settling found is
turn_at-is s ReadEpoch settling Done is at = is
turn_at-is s ReadEpoch settling Lost is at = is
turn_at-is s Seal settling (Word found) is at = is
turn_at-is s Seal settling Done is at = asks_first s settling is
turn_at-is s Seal settling Lost is at = is
turn_at-is s (ReadBegin client) settling (Word found) is at = on_begin-is s settling client found is at
turn_at-is s (ReadBegin client) settling Done is at = is
turn_at-is s (ReadBegin client) settling Lost is at = is
turn_at-is s (ReadPause client begin) settling (Word found) is at = on_pause-is s settling client begin found is at
turn_at-is s (ReadPause client begin) settling Done is at = is
turn_at-is s (ReadPause client begin) settling Lost is at = is
turn_at-is s (ReadStatus node live) settling (Word found) is at = on_status-is s settling node live found is at.0 at.2
turn_at-is s (ReadStatus node live) settling Done is at = is
turn_at-is s (ReadStatus node live) settling Lost is at = is
turn_at-is s ReadWord settling (Word found) is at = writes_from-is s settling found 0 is at
turn_at-is s ReadWord settling Done is at = is
turn_at-is s ReadWord settling Lost is at = asks_nodes s settling is
turn_at-is s (WriteWord word target) settling (Word found) is at = is
turn_at-is s (WriteWord word target) settling Done is at = writes_from-is s settling word (target + 1) is at.0
turn_at-is s (WriteWord word target) settling Lost is at = asks_nodes s settling is
turn_at-is s Open settling (Word found) is at = is
turn_at-is s Open settling Done is at = is
turn_at-is s Open settling Lost is at = is

-- a settling stays one, whatever is answered
pub turn-is : (s : Sizes) (settling : Settling) (answer : Answer) → IsSettling s settling → IsSettling s (turn settling answer).state
turn-is s settling answer is = turn_at-is s settling.phase settling answer is is.phase

verb_at-inside : (s : Sizes) (phase : Phase) (settling : Settling) → IsSettling s settling → IsAt phase settling → IsInPool settling.shape (place_of (verb_at phase settling))
verb_at-inside s ReadEpoch settling is at = control-inside settling.shape EpochWord tt
verb_at-inside s Seal settling is at = control-inside settling.shape EpochWord tt
verb_at-inside s (ReadBegin client) settling is at = control-inside settling.shape (Begin client) (at.0, omega (arith, at, is.limits.clients))
verb_at-inside s (ReadPause client begin) settling is at = control-inside settling.shape (Pause client) (at.0, omega (arith, at, is.limits.clients))
verb_at-inside s (ReadStatus node live) settling is at = control-inside settling.shape (Status node) (at.0, omega (arith, at, is.limits.nodes))
verb_at-inside s ReadWord settling is at =
    let source : IsView (source_view settling) = record { limits = is.limits; covers = at.covers } in
    place-inside settling.shape _ (read_place_of-inside (source_view settling) settling.region settling.offset source at.region at.offset)
verb_at-inside s (WriteWord word target) settling is at =
    place-inside settling.shape _ (written_places_of-inside (source_view settling) (next_view settling) settling.region settling.offset is.limits at.0.region at.0.offset target (0, 0) at.1)
verb_at-inside s Open settling is at = control-inside settling.shape EpochWord tt

-- its verb goes to a place of the pool
pub next-inside : (s : Sizes) (settling : Settling) → IsSettling s settling → IsInPool s (place_of (next settling))
next-inside s settling is =
    let P : Sizes → Type 0 = λ sizes. IsInPool sizes (place_of (next settling)) in
    subst P is.same_shape (verb_at-inside s settling.phase settling is is.phase)
