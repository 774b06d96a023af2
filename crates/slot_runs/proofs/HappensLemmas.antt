-- Each event of a run is one of the small machine, and leaves the run good.
use Rattle.std.proofs.Common.{◌≡◌, ◌≢◌, ℕ, ◌+◌, ◌*◌, ◌<◌, ◌==◌, Bool, true, false, if◌then◌else◌, List, [], ◌∷◌, ◌++◌, length, Option, Some, None, refl, sym, ◌∙◌, ap, subst, arith, inl, inr, eq-eqb, ne_eqb}
use Rattle.std.proofs.lemmas.Bool.{cases_eq}
use Rattle.machine.specs.declared.slot_write.Wrote.{Wrote}
use Rattle.machine.specs.declared.slot_write.Wrote.TheVariants as wrote
use Rattle.machine.specs.EpochRead.{IsView}
use Rattle.machine.specs.Places.{backup_count, slot_backup, slot_primary}
use Rattle.machine.specs.SlotWrite.{Phase, Gather, Mend, Check, Final, Wait, SlotWrite, goes, judged, listed, mend_from, next, on_verdict, slot_write_of, tells, turn, turn_at}
use Rattle.machine.proofs.SlotWriteLemmas.{slot_write_of-is, turn-is}
use Rattle.region_view.specs.Placed.{Viewed}
use Rattle.slot_rounds.specs.Allowed as allowed
use Rattle.slot_rounds.specs.Run as rounds
use Rattle.slot_rounds.specs.Write as small
use Rattle.slot_rounds.specs.Write.{Writing}
use Rattle.slot_rounds.proofs.EventLemmas.{IsSound-opening}
use Rattle.slot_rounds.proofs.RoundLemmas.{IsSound-happens, expected-happens, holds}
use Rattle.slot_rounds.proofs.Soundness.{IsSound}
use Rattle.slot_runs.specs.Run.{State, Event, Begin, Step, answered, backup_word, deciding, first_after, firsts_after, happens, opening, put, round_after, stepped, told, told_by, under_way, words_then}
use Rattle.slot_runs.specs.Allowed.{IsSettled}
use Rattle.slot_runs.proofs.FamilyLemmas.{at_put, listing-constant, made_of_put, put_here, put_there}
use Rattle.slot_runs.proofs.PlaceLemmas.{HasSlot-after, backup_count-bounds}
use Rattle.slot_runs.proofs.Seen.{event_seen, slot_seen, state_seen, told_seen, write_seen, writer_seen}
use Rattle.slot_runs.proofs.SlotLemmas.{first_after-apart}
use Rattle.slot_runs.proofs.Standing.{HasBegun, HaveApartFirsts, IsGood, IsOwn, at_phase, own-written, own_write, short_list}
use Rattle.slot_runs.proofs.StepLemmas.{IsReady, due-at, seen-at, told-at}
use Rattle.slot_runs.proofs.VerbLemmas.{IsDue}
use Rattle.slot_runs.proofs.WriteLemmas.{left_by}
use Rattle.verb_words.specs.Applied.{answer_to}
use Rattle.verb_words.specs.declared.verbs.Answer.{Answer}
use Rattle.verb_words.specs.declared.verbs.Answer.TheVariants.{Word, Done, Lost}
use Rattle.verb_words.specs.Words.{word_at}

-- ---- the writer whose verb it is

ready_of : (state : State) (writer : ℕ) (write : SlotWrite) → IsGood state → state.writers writer ≡ Some write
    → IsReady state (own_write state write.expect write.fresh write.list write.phase)
ready_of state writer write good is =
    let own = good.own writer write is in
    record {
      ground = good.ground;
      at = at_phase state write own;
      short = short_list state write own;
      fresh = (good.sound.each writer (write_seen write) (ap writer_seen is)).apart;
      apart = good.apart;
    }

-- its verb finds its place
pub due_of : (state : State) (writer : ℕ) (write : SlotWrite) → IsGood state → state.writers writer ≡ Some write → IsDue state (next write)
due_of state writer write good is =
    subst (λ (w : SlotWrite). IsDue state (next w)) (sym (own-written state write (good.own writer write is)))
    (due-at state write.expect write.fresh write.list write.phase (ready_of state writer write good is))

seen-writer : (state : State) (writer : ℕ) (mine : Option SlotWrite) → IsGood state → state.writers writer ≡ mine
    → state_seen (stepped state writer mine) ≡ rounds.stepped (state_seen state) writer (writer_seen mine)
seen-writer state writer None good is = refl
seen-writer state writer (Some write) good is =
    subst (λ (w : SlotWrite). state_seen (stepped state writer (Some w)) ≡ rounds.stepped (state_seen state) writer (Writing (write_seen w)))
    (sym (own-written state write (good.own writer write is)))
    (seen-at state write.expect write.fresh write.list write.phase (ready_of state writer write good is) writer)

-- each event is one of the small machine
pub seen-happens : (state : State) (event : Event) → IsGood state
    → state_seen (happens state event) ≡ rounds.happens (state_seen state) (event_seen event)
seen-happens state (Begin writer expect fresh) good = λ i. record {
  slot = slot_seen state;
  writers = λ other. made_of_put writer_seen state.writers writer (Some (slot_write_of state.view state.slot expect fresh)) other i;
}
seen-happens state (Step writer) good = seen-writer state writer (state.writers writer) good refl

told-writer : (state : State) (writer : ℕ) (mine : Option SlotWrite) → IsGood state → state.writers writer ≡ mine
    → told_seen (told_by state.nodes mine) ≡ rounds.told_to (slot_seen state) (writer_seen mine)
told-writer state writer None good is = refl
told-writer state writer (Some write) good is =
    subst (λ (w : SlotWrite). told_seen (told_by state.nodes (Some w)) ≡ rounds.told_to (slot_seen state) (Writing (write_seen w)))
    (sym (own-written state write (good.own writer write is)))
    (told-at state write.expect write.fresh write.list write.phase (ready_of state writer write good is))

-- and tells the same
pub seen-told : (state : State) (event : Event) → IsGood state
    → told_seen (told state event) ≡ rounds.told (state_seen state) (event_seen event)
seen-told state (Begin writer expect fresh) good = refl
seen-told state (Step writer) good = told-writer state writer (state.writers writer) good refl

-- ---- at the opening

pub none_writes : (write : SlotWrite) → None ≡ Some write → ⊥
none_writes write is = cc

pub IsGood-opening : (view : Viewed) (slot : ℕ) (nodes : List (List ℕ)) → IsView view → slot < 24 * view.shape.groups
    → IsSettled view slot nodes → IsGood (opening view slot nodes)
IsGood-opening view slot nodes is below settled =
    record {
      ground = record { is_view = is; below = below; has = settled.has };
      own = λ writer write writes. absurd (none_writes write writes);
      begun = λ writer write writes. absurd (none_writes write writes);
      apart = λ backup word first. absurd (cc (first));
      sound = subst IsSound (sym seen)
          (IsSound-opening (backup_count view slot) (word_at nodes (slot_primary view slot)) (omega (arith, (backup_count-bounds view slot is).0)));
    }
  where
    seen : state_seen (opening view slot nodes) ≡ rounds.opening (backup_count view slot) (word_at nodes (slot_primary view slot))
    seen = λ i. record {
      slot = record {
        primary = word_at nodes (slot_primary view slot);
        backups = listing-constant (λ backup. word_at nodes (slot_backup view slot backup)) (backup_count view slot)
            (word_at nodes (slot_primary view slot)) settled.equal i;
        firsts = listing-constant (λ backup. word_at nodes (slot_primary view slot)) (backup_count view slot)
            (word_at nodes (slot_primary view slot)) (λ backup within. refl) i;
      };
      writers = λ writer. small.Idle;
    }

-- ---- what a turn keeps

slot_kept : (phase : Phase) (write : SlotWrite) (found : ℕ) → (turn_at phase write found).state.slot ≡ write.slot
slot_kept Gather write found = by (length (write.list ++ listed write found ∷ []) == backup_count write.view write.slot)
  where
    by : (test : Bool) → (if test then record write { list = write.list ++ listed write found ∷ []; phase = on_verdict (judged (write.list ++ listed write found ∷ []) write.fresh) write.fresh (write.list ++ listed write found ∷ []) }
        else record write { list = write.list ++ listed write found ∷ [] }).slot ≡ write.slot
    by true = refl
    by false = refl
slot_kept (Mend backup) write found = refl
slot_kept Check write found = by (found == write.expect)
  where
    by : (test : Bool) → (if test then goes (record write { phase = mend_from write.fresh 0 write.list }) else tells write (wrote.Changed found)).state.slot ≡ write.slot
    by true = refl
    by false = refl
slot_kept Final write found = refl
slot_kept Wait write found = by (found == write.expect)
  where
    by : (test : Bool) → (if test then tells write (wrote.Unchanged found) else tells write (wrote.Changed found)).state.slot ≡ write.slot
    by true = refl
    by false = refl

slot_kept_by : (write : SlotWrite) (answer : Answer) → (turn write answer).state.slot ≡ write.slot
slot_kept_by write (Word found) = slot_kept write.phase write found
slot_kept_by write Done = refl
slot_kept_by write Lost = refl

-- what is left of a write is the turn's
left_is : (told : Wrote) (write later : SlotWrite) → under_way told write ≡ Some later → write ≡ later
left_is wrote.Going write later is = cc
left_is (wrote.Unchanged word) write later is = cc
left_is (wrote.Refused node) write later is = cc
left_is wrote.Won write later is = absurd (none_writes later is)
left_is (wrote.Changed word) write later is = absurd (none_writes later is)

-- ---- a write begins

IsGood-begun : (state : State) (writer expect fresh : ℕ) → IsGood state
    → allowed.MayHappen (state_seen state) (rounds.Begin writer expect fresh) → IsGood (happens state (Begin writer expect fresh))
IsGood-begun state writer expect fresh good may =
    let write : SlotWrite = slot_write_of state.view state.slot expect fresh in
    record {
      ground = record { is_view = good.ground.is_view; below = good.ground.below; has = good.ground.has };
      own = λ other later is. elim (at_put state.writers writer (Some write) other (Some later) is) [
        | inl here ↦
            let same : write ≡ later = cc (here.1) in
            let own : IsOwn (happens state (Begin writer expect fresh)) write = record { is = slot_write_of-is state.view state.slot expect fresh good.ground.is_view good.ground.below; slot = refl } in
            subst (λ (w : SlotWrite). IsOwn (happens state (Begin writer expect fresh)) w) same own
        | inr there ↦ let own = good.own other later there.1 in record { is = own.is; slot = own.slot }
      ];
      begun = λ other later is. elim (at_put state.writers writer (Some write) other (Some later) is) [
        | inl here ↦
            let same : write ≡ later = cc (here.1) in
            let began : put state.began writer state.round other ≡ state.round =
            subst (λ n. put state.began writer state.round n ≡ state.round) here.0 (put_here state.began writer state.round) in
            record {
              past = omega (arith, began);
              now = λ _. subst (λ (w : SlotWrite). w.expect ≡ deciding state) same may.1;
              ended = λ before. absurd (omega (arith, began, before));
            }
        | inr there ↦
            let old = good.begun other later there.1 in
            let began : put state.began writer state.round other ≡ state.began other = put_there state.began writer state.round other there.0 in
            record {
              past = omega (arith, began, old.past);
              now = λ at. old.now (sym began ∙ at);
              ended = λ before. old.ended (omega (arith, began, before));
            }
      ];
      apart = good.apart;
      sound = subst IsSound (sym (seen-happens state (Begin writer expect fresh) good))
          (IsSound-happens (state_seen state) (rounds.Begin writer expect fresh) may good.sound);
    }

-- ---- a verb is taken

round-same : (state : State) (now : List (List ℕ)) → word_at now (slot_primary state.view state.slot) ≡ deciding state
    → round_after state now ≡ state.round
round-same state now same = rw (eq-eqb (word_at now (slot_primary state.view state.slot)) (deciding state) same) refl

round-next : (state : State) (now : List (List ℕ)) → word_at now (slot_primary state.view state.slot) ≢ deciding state
    → round_after state now ≡ state.round + 1
round-next state now other = rw (ne_eqb (word_at now (slot_primary state.view state.slot)) (deciding state) other) refl

apart-after : (state : State) (now : List (List ℕ)) → HaveApartFirsts state → (backup word : ℕ)
    → firsts_after state now backup ≡ Some word → word ≢ word_at now (slot_primary state.view state.slot)
apart-after state now apart backup word first =
    elim (cases_eq (word_at now (slot_primary state.view state.slot)) (deciding state)) [
      | inl same ↦
          let made : first_after (deciding state) (state.firsts backup) (backup_word state backup) (word_at now (slot_backup state.view state.slot backup)) ≡ Some word =
          rw (eq-eqb (word_at now (slot_primary state.view state.slot)) (deciding state) same) at first in
          λ is. first_after-apart (deciding state) (backup_word state backup) (word_at now (slot_backup state.view state.slot backup)) word
          (state.firsts backup) (apart backup) made (is ∙ same)
      | inr other ↦
          let none : None ≡ Some word = rw (ne_eqb (word_at now (slot_primary state.view state.slot)) (deciding state) other) at first in
          absurd (cc (none))
    ]

-- a write that is under way after a verb was so before, and expects the same word
pub record WasUnderWay (state : State) (writer : ℕ) (later : SlotWrite) : Type 0 where
  pub write : SlotWrite
  pub is : state.writers writer ≡ Some write
  pub expect : later.expect ≡ write.expect

module _ (state : State) (writer : ℕ) (write : SlotWrite) (good : IsGood state) (is : state.writers writer ≡ Some write) where
  abbrev next_state : State
  next_state = stepped state writer (Some write)

  -- the small machine's step
  seen : state_seen next_state ≡ rounds.happens (state_seen state) (rounds.Step writer)
  seen =
      seen-writer state writer (Some write) good is
      ∙ ap (λ w. rounds.stepped (state_seen state) writer (writer_seen w)) (sym is)

  seen_writes : (other : ℕ) (later : SlotWrite) → next_state.writers other ≡ Some later
      → (rounds.happens (state_seen state) (rounds.Step writer)).writers other ≡ Writing (write_seen later)
  seen_writes other later later_is = ap (λ (s : rounds.State). s.writers other) (sym seen) ∙ ap writer_seen later_is

  was_under_way : (other : ℕ) (later : SlotWrite) → next_state.writers other ≡ Some later → WasUnderWay state other later
  was_under_way other later later_is =
      elim (at_put state.writers writer (left_by (answered state.nodes write)) other (Some later) later_is) [
        | inl here ↦
            let mine : state.writers other ≡ Some write = subst (λ n. state.writers n ≡ Some write) here.0 is in
            record {
              write = write;
              is = mine;
              expect = expected-happens (state_seen state) (rounds.Step writer) tt other (write_seen write) (write_seen later)
                  (ap writer_seen mine) (seen_writes other later later_is);
            }
        | inr there ↦ record { write = later; is = there.1; expect = refl }
      ]

  begun-after : (other : ℕ) (later : SlotWrite) → next_state.writers other ≡ Some later → HasBegun next_state other later
  begun-after other later later_is =
      let was = was_under_way other later later_is in
      let old = good.begun other was.write was.is in
      let small_holds = holds (state_seen state) (rounds.Step writer) tt good.sound in
      let primary : (rounds.happens (state_seen state) (rounds.Step writer)).slot.primary ≡ deciding next_state = ap (λ (s : rounds.State). s.slot.primary) (sym seen) in
      elim (cases_eq (deciding next_state) (deciding state)) [
        | inl same ↦
            let round = round-same state (words_then state.nodes write) same in
            record {
              past = omega (arith, round, old.past);
              now = λ at. was.expect ∙ (old.now (at ∙ round) ∙ sym same);
              ended = λ before at. old.ended (omega (arith, round, before)) (sym was.expect ∙ (at ∙ same));
            }
        | inr other_word ↦
            let round = round-next state (words_then state.nodes write) other_word in
            record {
              past = omega (arith, round, old.past);
              now = λ at. absurd (omega (arith, round, old.past, at));
              ended = λ before at. elim (cases_eq (state.began other) state.round) [
                | inl now ↦ other_word (sym at ∙ (was.expect ∙ old.now now))
                | inr past ↦
                    small_holds.ended other (write_seen was.write) (write_seen later) (ap writer_seen was.is) (seen_writes other later later_is)
                    (old.ended (omega (arith, old.past, past))) (at ∙ sym primary)
              ];
            }
      ]

  IsGood-stepped : IsGood next_state
  IsGood-stepped =
      let due = due_of state writer write good is in
      record {
        ground = record {
          is_view = good.ground.is_view;
          below = good.ground.below;
          has = HasSlot-after state.view state.slot state.nodes (next write) due.live.live due.node good.ground.has;
        };
        own = λ other later later_is.
            elim (at_put state.writers writer (left_by (answered state.nodes write)) other (Some later) later_is) [
              | inl here ↦
                  let own = good.own writer write is in
                  let same = left_is (answered state.nodes write).told (answered state.nodes write).state later here.1 in
                  let after : IsOwn next_state (answered state.nodes write).state = record {
                    is = turn-is state.view write (answer_to state.nodes (next write) true) own.is;
                    slot = slot_kept_by write (answer_to state.nodes (next write) true) ∙ own.slot;
                  } in
                  subst (λ (w : SlotWrite). IsOwn next_state w) same after
              | inr there ↦ let own = good.own other later there.1 in record { is = own.is; slot = own.slot }
            ];
        begun = begun-after;
        apart = apart-after state (words_then state.nodes write) good.apart;
        sound = subst IsSound (sym seen) (IsSound-happens (state_seen state) (rounds.Step writer) tt good.sound);
      }

IsGood-writer : (state : State) (writer : ℕ) (mine : Option SlotWrite) → IsGood state → state.writers writer ≡ mine
    → IsGood (stepped state writer mine)
IsGood-writer state writer None good is = good
IsGood-writer state writer (Some write) good is = IsGood-stepped state writer write good is

-- a run stays good
pub IsGood-happens : (state : State) (event : Event) → allowed.MayHappen (state_seen state) (event_seen event) → IsGood state
    → IsGood (happens state event)
IsGood-happens state (Begin writer expect fresh) may good = IsGood-begun state writer expect fresh good may
IsGood-happens state (Step writer) may good = IsGood-writer state writer (state.writers writer) good refl
