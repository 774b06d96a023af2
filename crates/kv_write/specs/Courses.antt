-- How far the writing of some words of an object has come.
use Rattle.std.specs.Prelude.{◌≡◌, ℕ, ◌+◌, ◌^◌, ◌<◌, ◌≤◌, nat_lt, if◌then◌else◌, List, length, map}
use Rattle.machine.specs.declared.object_write.Written.{Written}
use Rattle.machine.specs.declared.object_write.Written.TheVariants.{Going, Whole}
use Rattle.machine.specs.EpochRead.{IsView}
use Rattle.machine.specs.Places.{homes_of, object_word, pair_of, replica_count}
use Rattle.machine.specs.Turn.{Turn}
use Rattle.machine.specs.WordsWrite.{Piece, WordsWrite}
use Rattle.region_view.specs.Layout.{position_of}
use Rattle.region_view.specs.Placed.{Viewed}

-- the present word is counted among those that are written, the present replica with the backups in order and the primary last
pub record Course : Type 0 where
  pub view : Viewed
  pub pointer : ℕ
  pub piece : ℕ
  pub replica : ℕ

abbrev pub course_of : Viewed → ℕ → Course
course_of view pointer = record { view = view; pointer = pointer; piece = 0; replica = 0 }

-- the writing of these words that has come so far
abbrev pub write_on : Course → List Piece → WordsWrite
write_on course pieces = record { view = course.view; pointer = course.pointer; pieces = pieces; piece = course.piece; replica = course.replica }

-- which of some replicas, the primary being 0, is written in turn: the backups in order, and the primary last
abbrev pub written_as : ℕ → ℕ → ℕ
written_as turn count = if nat_lt (turn + 1) count then turn + 1 else 0

-- after a write: the next replica, or the next word
abbrev pub gone_on : Course → ℕ → Turn Course Written
gone_on course count =
    if nat_lt (course.replica + 1) (replica_count course.view (object_word course.pointer 0))
    then record { state = record course { replica = course.replica + 1 }; told = Going }
    else if nat_lt (course.piece + 1) count
    then record { state = record course { piece = course.piece + 1; replica = 0 }; told = Going }
    else record { state = course; told = Whole }

-- a course with the places of the object's first word at hand
pub record IsCourse (course : Course) (places : List (ℕ × ℕ)) : Type 0 where
  pub is_view : IsView course.view
  pub places_are : places ≡ map (pair_of course.view.shape) (homes_of course.view (object_word course.pointer 0))
  pub long : length places ≡ replica_count course.view (object_word course.pointer 0)
  pub few : length places ≤ 5
  pub low : position_of course.view.shape (object_word course.pointer 0) < 2 ^ 22
  pub replica : course.replica < length places
