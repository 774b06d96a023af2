-- The words of the control node.
use Rattle.std.proofs.Common.{◌≡◌, ◌<◌, refl, ap, ◌∙◌, arith}
use Rattle.region_view.specs.Control.{ControlWord, EpochWord, Status, Begin, Pause, Head, HasControlWord, control_position}

pub control_position-inside : (word : ControlWord) → HasControlWord word → control_position word < 1040
control_position-inside EpochWord has = omega arith
control_position-inside (Status n) has = omega arith
control_position-inside (Begin c) has = omega arith
control_position-inside (Pause c) has = omega arith
control_position-inside (Head c k) has = omega arith

pub control_position-apart : (one other : ControlWord) → HasControlWord one → HasControlWord other → control_position one ≡ control_position other → one ≡ other
control_position-apart EpochWord EpochWord has has' same = refl
control_position-apart EpochWord (Status n') has has' same = absurd (omega arith)
control_position-apart EpochWord (Begin c') has has' same = absurd (omega arith)
control_position-apart EpochWord (Pause c') has has' same = absurd (omega arith)
control_position-apart EpochWord (Head c' k') has has' same = absurd (omega arith)
control_position-apart (Status n) EpochWord has has' same = absurd (omega arith)
control_position-apart (Status n) (Status n') has has' same = ap Status (omega arith)
control_position-apart (Status n) (Begin c') has has' same = absurd (omega arith)
control_position-apart (Status n) (Pause c') has has' same = absurd (omega arith)
control_position-apart (Status n) (Head c' k') has has' same = absurd (omega arith)
control_position-apart (Begin c) EpochWord has has' same = absurd (omega arith)
control_position-apart (Begin c) (Status n') has has' same = absurd (omega arith)
control_position-apart (Begin c) (Begin c') has has' same = ap Begin (omega arith)
control_position-apart (Begin c) (Pause c') has has' same = absurd (omega arith)
control_position-apart (Begin c) (Head c' k') has has' same = absurd (omega arith)
control_position-apart (Pause c) EpochWord has has' same = absurd (omega arith)
control_position-apart (Pause c) (Status n') has has' same = absurd (omega arith)
control_position-apart (Pause c) (Begin c') has has' same = absurd (omega arith)
control_position-apart (Pause c) (Pause c') has has' same = ap Pause (omega arith)
control_position-apart (Pause c) (Head c' k') has has' same = absurd (omega arith)
control_position-apart (Head c k) EpochWord has has' same = absurd (omega arith)
control_position-apart (Head c k) (Status n') has has' same = absurd (omega arith)
control_position-apart (Head c k) (Begin c') has has' same = absurd (omega arith)
control_position-apart (Head c k) (Pause c') has has' same = absurd (omega arith)
control_position-apart (Head c k) (Head c' k') has has' same = let client : c ≡ c' = omega arith in let class : k ≡ k' = omega arith in ap (λ n. Head n k) client ∙ ap (λ n. Head c' n) class
