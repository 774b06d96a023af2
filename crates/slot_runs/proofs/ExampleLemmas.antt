-- Two writers who write one slot at once: they may do what they do, and this comes of it.
use Rattle.std.proofs.Common.{◌≡◌, ◌≢◌, ℕ, zero, suc, ◌<◌, true, List, [], ◌∷◌, ◌++◌, Some, refl, subst, arith, inl, inr}
use Rattle.machine.specs.EpochRead.{IsView, leaves_none_bare}
use Rattle.machine.specs.SlotWrite.{SlotWrite, slot_write_of}
use Rattle.slot_runs.specs.Run.{Event, Begin, happens, run}
use Rattle.slot_runs.specs.Allowed.{IsAllowed, IsLive, IsSettled, IsUnused, IsUnusedSince}
use Rattle.slot_runs.specs.Example.{at_rest, contended, empty_slot, on_three_nodes}
use Rattle.slot_runs.proofs.FamilyLemmas.{at_put}
use Rattle.slot_runs.proofs.HappensLemmas.{none_writes}
use Rattle.verb_words.specs.declared.verbs.Place.{Place}

bare_of_none : leaves_none_bare on_three_nodes.shape on_three_nodes.mask ≡ true
unfolding leaves_none_bare
bare_of_none = refl

pub IsView-on_three_nodes : IsView on_three_nodes
IsView-on_three_nodes = record {
  limits = record {
    nodes = (omega arith, omega arith);
    replicas = (omega arith, omega arith);
    placed = omega arith;
    regions = (omega arith, omega arith);
    blocks = (omega arith, omega arith);
    groups = (omega arith, omega arith);
    clients = (omega arith, omega arith);
    calls = (omega arith, omega arith);
  };
  covers = bare_of_none;
}

first_word : ℕ → Place
first_word node = record { node = node; at = 0 }

live : (node : ℕ) → 0 < node → node < 4 → IsLive empty_slot (record { node = node; at = 0 })
live zero some few = absurd (omega arith)
live (suc zero) some few = record { there = record { node = omega arith; at = omega arith }; live = refl }
live (suc (suc zero)) some few = record { there = record { node = omega arith; at = omega arith }; live = refl }
live (suc (suc (suc zero))) some few = record { there = record { node = omega arith; at = omega arith }; live = refl }
live (suc (suc (suc (suc node)))) some few = absurd (omega arith)

backups_are : (P : ℕ → Type 0) → P 0 → P 1 → (backup : ℕ) → backup < 2 → P backup
backups_are P first second zero within = first
backups_are P first second (suc zero) within = second
backups_are P first second (suc (suc backup)) within = absurd (omega arith)

pub IsSettled-empty_slot : IsSettled on_three_nodes 0 empty_slot
IsSettled-empty_slot = record {
  has = record {
    primary = live 1 (omega arith) (omega arith);
    backups = backups_are _ (live 2 (omega arith) (omega arith)) (live 3 (omega arith) (omega arith));
  };
  equal = backups_are _ refl refl;
}

-- ---- the words are unused

unused_first : (word : ℕ) → word ≢ 0 → IsUnused at_rest word
unused_first word other = record {
  primary = other;
  backups = backups_are _ other other;
  written = λ writer write is. absurd (none_writes write is);
}

unused_second : IsUnused (happens at_rest (Begin 1 0 5)) 9
unused_second = record {
  primary = omega arith;
  backups = backups_are _ (omega arith) (omega arith);
  written = λ writer write is. elim (at_put at_rest.writers 1 (Some (slot_write_of on_three_nodes 0 0 5)) writer (Some write) is) [
    | inl here ↦
        let same : slot_write_of on_three_nodes 0 0 5 ≡ write = cc (here.1) in
        subst (λ (w : SlotWrite). 9 ≢ w.fresh) same (omega arith)
    | inr there ↦ absurd (none_writes write there.1)
  ];
}

at_first : (before later : List Event) → [] ≡ before ++ later → IsUnused (run at_rest before) 5
at_first [] later split = unused_first 5 (omega arith)
at_first (event ∷ before) later split = absurd cc

at_second : (before later : List Event) → Begin 1 0 5 ∷ [] ≡ before ++ later → IsUnused (run at_rest before) 9
at_second [] later split = unused_first 9 (omega arith)
at_second (event ∷ []) later split =
    let same : Begin 1 0 5 ≡ event = cc in subst (λ e. IsUnused (happens at_rest e) 9) same unused_second
at_second (event ∷ other ∷ before) later split = absurd cc

since_first : IsUnusedSince at_rest [] 5
since_first = record {
  now = unused_first 5 (omega arith);
  since = λ before later writer split stays. at_first before later split;
}

since_second : IsUnusedSince at_rest (Begin 1 0 5 ∷ []) 9
since_second = record {
  now = unused_second;
  since = λ before later writer split stays. at_second before later split;
}

pub IsAllowed-contended : IsAllowed at_rest [] contended
IsAllowed-contended = ((refl, refl, since_first), ((refl, refl, since_second), (tt, (tt, (tt, (tt, (tt, (tt, tt))))))))
