-- The ends over std: a reader or a writer, and how many faults there were.
use Rattle.std.specs.Prelude.{ℕ, ◌==◌, nat_lt, ◌&&◌, if◌then◌else◌}
use Rattle.outside.specs.Faults.{one_more}
use Rattle.outside.specs.declared.sources.Got.{Got}
use Rattle.outside.specs.declared.sources.Got.TheVariants as got
use Rattle.outside.specs.declared.sinks.Took.{Took}
use Rattle.outside.specs.declared.sinks.Took.TheVariants as took

pub record Counted (R : Type 0) : Type 0 where
  pub end : R
  pub faults : ℕ

-- the count after a read
abbrev pub faults_after_read : ℕ → Got → ℕ
faults_after_read faults (got.Got n) = faults
faults_after_read faults got.End = faults
faults_after_read faults got.Failed = one_more faults

-- the count after a write of so many bytes
abbrev pub faults_after_write : ℕ → Took → ℕ → ℕ
faults_after_write faults (took.Took n) len = if n == 0 && nat_lt 0 len then one_more faults else faults
faults_after_write faults took.Failed len = one_more faults
faults_after_write faults took.NoMemory len = faults
