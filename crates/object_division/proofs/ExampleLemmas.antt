-- What the first choosing of a client leads to.
use Rattle.std.proofs.Common.{◌≡◌, ◌++◌, ℕ, Bool, true, false, Some, inl, inr, refl, arith}
use Rattle.std.proofs.lemmas.Bool.{cases_Bool}
use Rattle.std.specs.Int.Count.{count_trailing_zeros}
use Rattle.block_alloc.specs.BlockWord.{block_in}
use Rattle.machine.specs.BitChange.{BitChange}
use Rattle.machine.specs.ObjectNames.{Object}
use Rattle.machine.specs.Stock.{Ask, Rest, Claim, ReadBlock, Spread, WriteHead, first_free}
use Rattle.object_division.specs.Allowed.{IsActive, IsAllowed, IsFreeInside, stock_of}
use Rattle.object_division.specs.Client.{Active, Given, NotClearing, Taken, Untaken, Use, Returning, is_same}
use Rattle.object_division.specs.Example.{first_object, gains, gives_back, takes, two_nodes}
use Rattle.object_division.specs.Run.{State, is_in_stock, is_inside, opening, run, with_use}

pub reserve-gains : (stock_of ((run (opening two_nodes) gains).clients 1) 0).reserve ≡ Some 0x100010
unfolding block_in first_free count_trailing_zeros
reserve-gains = refl

pub uses-takes : (run (opening two_nodes) (gains ++ takes)).uses first_object ≡ Taken 1
unfolding block_in first_free count_trailing_zeros
uses-takes = refl

pub is_in_stock-takes : is_in_stock (run (opening two_nodes) (gains ++ takes)) first_object ≡ false
unfolding block_in first_free count_trailing_zeros
is_in_stock-takes = refl

pub reserve-takes : (stock_of ((run (opening two_nodes) (gains ++ takes)).clients 1) 0).reserve ≡ Some 0x100011
unfolding block_in first_free count_trailing_zeros
reserve-takes = refl

pub uses-gives_back : (run (opening two_nodes) (gains ++ (takes ++ gives_back))).uses first_object ≡ Untaken
unfolding block_in first_free count_trailing_zeros
uses-gives_back = refl

pub is_in_stock-gives_back : is_in_stock (run (opening two_nodes) (gains ++ (takes ++ gives_back))) first_object ≡ true
unfolding block_in first_free count_trailing_zeros
is_in_stock-gives_back = refl

-- client 1 takes steps in a state that is reached from the opening words
active_one : (state : State) → state.view ≡ two_nodes → (state.clients 1).service ≡ Active → IsActive state 1
active_one state viewed active =
    record { number = (omega arith, rw viewed (omega arith)); active = active }

free_one : (state : State) → state.view ≡ two_nodes → (state.clients 1).service ≡ Active → is_inside state 1 ≡ true
    → (state.clients 1).clearing ≡ NotClearing → IsFreeInside state 1
free_one state viewed active inside clearing =
    record { active = active_one state viewed active; inside = inside; clearing = clearing }

-- whatever became of one object before, it is untaken at last, and the others have always been
untaken_at_last : (object other : Object) (first second third fourth fifth : Use)
    → with_use (with_use (with_use (with_use (with_use (with_use (λ one. Untaken) object first) object second) object third)
    object fourth) object fifth) object Untaken other ≡ Untaken
untaken_at_last object other first second third fourth fifth =
    elim (cases_Bool (is_same object other)) [ inl same ↦ rw same refl | inr apart ↦ rw apart refl ]

untaken_returning : (client namer : ℕ) (change : BitChange) → Untaken ≡ Returning client namer change → ⊥
untaken_returning client namer change is = cc

rest_asks : (client : ℕ) → Rest ≡ Ask client → ⊥
rest_asks client is = cc

reads_rests : ReadBlock ≡ Rest → ⊥
reads_rests is = cc

claims_rests : (word : ℕ) → Claim word ≡ Rest → ⊥
claims_rests word is = cc

spreads_rests : (unused : Bool) (backup : ℕ) → Spread unused backup ≡ Rest → ⊥
spreads_rests unused backup is = cc

writes_rests : WriteHead ≡ Rest → ⊥
writes_rests is = cc

given_first : Given
given_first = record { object = 0x100010; next = 0x100011 }

pub IsAllowed-gains : IsAllowed (opening two_nodes) gains
unfolding block_in first_free count_trailing_zeros
IsAllowed-gains = (
  (active_one _ refl refl, refl),
  (
    (free_one _ refl refl refl refl, omega arith, rest_asks),
    (
      (free_one _ refl refl refl refl, reads_rests),
      (
        (free_one _ refl refl refl refl, claims_rests 0),
        (
          (free_one _ refl refl refl refl, spreads_rests true 0),
          (
            (free_one _ refl refl refl refl, writes_rests),
            tt,
          ),
        ),
      ),
    ),
  ),
)

pub IsAllowed-takes : IsAllowed (run (opening two_nodes) gains) takes
unfolding block_in first_free count_trailing_zeros given_first
IsAllowed-takes = (
  (free_one _ refl refl refl refl, omega arith, (given_first, refl)),
  (
    (active_one _ refl refl, refl, (0, given_first, _, refl)),
    (
      (active_one _ refl refl, refl, (0, given_first, _, refl)),
      (
        (active_one _ refl refl, refl, (0, given_first, refl)),
        tt,
      ),
    ),
  ),
)
