-- A word that opens a mask has no sealed bit.
use Rattle.std.proofs.Common.{◌≡◌, ℕ, ◌/◌, ◌%◌, ◌^◌, ◌==◌, nat_lt, Bool, true, false, Option, Some, None, refl, sym, ◌∙◌, arith}
use Rattle.std.proofs.lemmas.Bool.Decides.{nat_tests}
use Rattle.machine.specs.EpochRead.{open_mask}
use Rattle.region_view.specs.Epoch.{epoch_in}
use Rattle.region_view.specs.Sizes.{Sizes}

none_some : {X : Type 0} {x : X} → None ≡ Some x → ⊥
none_some is = cc

unsealed_by : (sizes : Sizes) (word mask : ℕ) → open_mask sizes word ≡ Some mask → (high sealed : Bool) → nat_lt 1 (word / 2 ^ 8 % 2 ^ 8) ≡ high → (word / 2 ^ 8 % 2 ^ 8 == 1) ≡ sealed → word / 2 ^ 8 % 2 ^ 8 ≡ 0
unfolding open_mask epoch_in
unsealed_by sizes word mask opens true sealed is_high is_sealed =
    let none : open_mask sizes word ≡ None = rw is_high refl in
    absurd (none_some (sym none ∙ opens))
unsealed_by sizes word mask opens false true is_high is_sealed =
    let none : open_mask sizes word ≡ None = rw (is_high, is_sealed) refl in
    absurd (none_some (sym none ∙ opens))
unsealed_by sizes word mask opens false false is_high is_sealed = grind (arith, nat_tests)

pub unsealed : (sizes : Sizes) (word mask : ℕ) (opened : Option ℕ) → opened ≡ open_mask sizes word → opened ≡ Some mask → word / 2 ^ 8 % 2 ^ 8 ≡ 0
unsealed sizes word mask opened is some = unsealed_by sizes word mask (sym is ∙ some) (nat_lt 1 (word / 2 ^ 8 % 2 ^ 8)) (word / 2 ^ 8 % 2 ^ 8 == 1) refl refl
