-- What is read of the world depends on its words and on what is kept of the past.
use Rattle.std.proofs.Common.{◌≡◌, ℕ, zero, suc, ◌<◌, ◌==◌, Bool, true, false, ◌&&◌, List, ◌∷◌, length, map, refl, sym, ap, ◌∙◌, arith}
use Rattle.std.specs.Prelude.{◌||◌, nat_eq, nat_lt, slice_index_or}
use Rattle.std.proofs.Math.ListN.{get_or-eq_default}
use Rattle.std.proofs.lemmas.Simd.{map-map}
use Rattle.std.proofs.lemmas.Bool.Decides.{nat_tests}
use Rattle.machine.specs.Client.{is_idle}
use Rattle.machine.specs.Stage.{Client}
use Rattle.machine_world.specs.Ledger.{entry_of, history_of, in_order}
use Rattle.machine_world.specs.Readings.{division_of, has_returned}
use Rattle.machine_world.specs.World.{Entered, World, client_at, is_registered, nobody}
use Rattle.world_ledger.specs.Seen.{world_seen}

pub seen-division : (world : World) → division_of (world_seen world.shape world.nodes world.stopped world.master.recovered world.ledger) ≡ division_of world
unfolding division_of
seen-division world = refl

-- who is not registered is nobody
nobody-else : (nobody_first : Client) (clients : List Client) (client : ℕ) → (nat_lt 0 client && nat_lt client (length (nobody_first ∷ clients))) ≡ false
    → slice_index_or (nobody_first ∷ clients) client nobody_first ≡ nobody_first
nobody-else nobody_first clients zero unknown = refl
nobody-else nobody_first clients (suc k) unknown = get_or-eq_default clients nobody_first (grind (arith, nat_tests))

none-returned : (number : ℕ) → nat_eq number 0 ≡ (nat_lt number 0 || ((number == 0) && true))
none-returned number = by (nat_lt number 0) refl (number == 0) refl
  where
    below_zero : nat_lt number 0 ≡ true → number < 0
    below_zero below = grind (arith, nat_tests)

    by : (t : Bool) → nat_lt number 0 ≡ t → (u : Bool) → (number == 0) ≡ u → nat_eq number 0 ≡ (nat_lt number 0 || ((number == 0) && true))
    by true below u is = absurd (omega (arith, below_zero below))
    by false none true is = rw (none, is) refl
    by false none false is = rw (none, is) refl

-- the client of a number that is not registered
unknown-client : (world : World) (clients : List Client) (client : ℕ) → world.clients ≡ nobody world.shape ∷ clients → is_registered world client ≡ false
    → client_at world client ≡ nobody world.shape
unfolding client_at
unknown-client world clients client all unknown =
    let found = nobody-else (nobody world.shape) clients client (ap (λ list. nat_lt 0 client && nat_lt client (length list)) (sym all) ∙ unknown) in
    ap (λ list. slice_index_or list client (nobody world.shape)) all ∙ found

pub nobody-idle : (world : World) (clients : List Client) (client : ℕ) → world.clients ≡ nobody world.shape ∷ clients → is_registered world client ≡ false
    → true ≡ is_idle (client_at world client)
nobody-idle world clients client all unknown = ap is_idle (sym (unknown-client world clients client all unknown))

pub nobody-returned : (world : World) (clients : List Client) (client number : ℕ) → world.clients ≡ nobody world.shape ∷ clients → is_registered world client ≡ false
    → nat_eq number 0 ≡ has_returned world client number
nobody-returned world clients client number all unknown =
    none-returned number ∙ ap (λ (me : Client). nat_lt number me.number || ((number == me.number) && is_idle me)) (sym (unknown-client world clients client all unknown))

-- the calls in their order, each as an entry, are the history
pub history-listed : {X : Type 0} (world : World) (order : List X) (entered : X → Entered) → map entered order ≡ in_order world.ledger.entries
    → map (λ one. entry_of world (entered one)) order ≡ history_of world
unfolding history_of
history-listed world order entered is = sym (map-map (entry_of world) entered order) ∙ ap (map (entry_of world)) is
