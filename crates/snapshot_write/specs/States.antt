-- What is true of a slot write from its beginning on.
use Rattle.std.specs.Prelude.{◌≡◌, ◌≢◌, ℕ, ◌<◌, ◌≤◌, List, length, map, slice_index}
use Rattle.machine.specs.Places.{Home, backup_count, slot_homes_of}
use Rattle.machine.specs.SlotWrite.{IsSlotWrite, SlotWrite, Phase, Gather, Mend, Check, Final, Wait, judged}
use Rattle.region_view.specs.Layout.{position_of}
use Rattle.region_view.specs.Sizes.{Sizes}
use Rattle.snapshot_rules.specs.declared.rules.Verdict.TheVariants.{CheckLeast, Lose}

-- the list has a word of each backup
abbrev pub IsFull : SlotWrite → Type 0
IsFull write = length write.list ≡ backup_count write.view write.slot

-- the list is gathered until it is full, and then says what the write goes on with. What is mended has another word
abbrev pub IsJudged : Phase → SlotWrite → Type 0
IsJudged Gather write = length write.list < backup_count write.view write.slot
IsJudged (Mend backup) write =
    IsFull write × (judged write.list write.fresh ≢ Lose) × (backup < length write.list) × (slice_index write.list backup ≢ write.fresh)
IsJudged Check write = IsFull write × (judged write.list write.fresh ≡ CheckLeast)
IsJudged Final write = IsFull write × (judged write.list write.fresh ≢ Lose)
IsJudged Wait write = IsFull write × (judged write.list write.fresh ≡ Lose)

-- a slot write that began and went on as the list says
pub record IsUnderWay (write : SlotWrite) : Type 0 where
  pub state : IsSlotWrite write.view write
  pub phase : IsJudged write.phase write

-- the slot on each replica, the primary first
abbrev pub homes : SlotWrite → List Home
homes write = slot_homes_of write.view write.slot

-- node and position of a home
abbrev pub pair_of : Sizes → Home → ℕ × ℕ
pair_of sizes home = (home.0, position_of sizes home.1)

-- a slot write under way, with the places of its slot at hand
pub record IsHeld (write : SlotWrite) (places : List (ℕ × ℕ)) : Type 0 where
  pub under_way : IsUnderWay write
  pub places_are : places ≡ map (pair_of write.view.shape) (homes write)
  pub long : length places ≡ length (homes write)
  pub some : 2 ≤ length (homes write)
  pub few : length (homes write) ≤ 5
