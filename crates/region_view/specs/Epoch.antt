-- The epoch word: the view in bits 16 to 63, whether it is sealed in bit 8, the mask in bits 0 to 7.
use Rattle.std.specs.Prelude.{ℕ, ◌+◌, ◌*◌, ◌/◌, ◌%◌, ◌^◌, ◌<◌, ◌==◌, nat_lt, Bool, if◌then◌else◌, Option, Some, None}
use Rattle.region_view.specs.declared.epochs.Epoch.{Epoch}

abbrev pub sealed_bit : Bool → ℕ
sealed_bit sealed = if sealed then 1 else 0

abbrev pub word_of_epoch : Epoch → ℕ
word_of_epoch epoch = epoch.view * 2 ^ 16 + sealed_bit epoch.sealed * 2 ^ 8 + epoch.mask

-- the limits of the fields
pub record IsEpoch (epoch : Epoch) : Type 0 where
  pub view : epoch.view < 2 ^ 48
  pub mask : epoch.mask < 2 ^ 8

-- what a word says, if it says an epoch
unfoldable pub epoch_in : ℕ → Option Epoch
epoch_in word =
    if nat_lt 1 (word / 2 ^ 8 % 2 ^ 8) then None
    else Some (record { view = word / 2 ^ 16; sealed = word / 2 ^ 8 % 2 ^ 8 == 1; mask = word % 2 ^ 8 })
