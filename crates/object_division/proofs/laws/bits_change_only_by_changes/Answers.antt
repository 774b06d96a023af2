use Rattle.object_division.proofs.BitmapLemmas.{bitmaps_small, bits_stay, set_at_first}
use Rattle.object_division.proofs.laws.bits_change_only_by_changes.Goals as goal

pub returns-clause-first : goal.returns-clause-first
returns-clause-first c = set_at_first

pub returns-clause-words : goal.returns-clause-words
returns-clause-words c = bitmaps_small

pub returns-clause-stay : goal.returns-clause-stay
returns-clause-stay c = bits_stay
