-- What the two ends were before and after a call, and how a call that wrote a text has ended.
use Rattle.std.specs.Prelude.{◌≡◌, ℕ, ◌⊎◌, List, Option}
use Rattle.std.specs.Io.KnownBytes.{Appends}
use Rattle.outside.specs.Appended.{AppendsFront}
use Rattle.outside.specs.Faults.{Rose}

-- what a source had left and how many faults it had counted, before and after
pub record SourceCourse : Type 0 where
  pub left : Option (List ℕ)
  pub left_now : Option (List ℕ)
  pub faults : ℕ
  pub faults_now : ℕ

-- what a sink held and how many faults it had counted, before and after
pub record SinkCourse : Type 0 where
  pub held : Option (List ℕ)
  pub held_now : Option (List ℕ)
  pub faults : ℕ
  pub faults_now : ℕ

abbrev pub source_course : {S : Type 0} → (S → Option (List ℕ)) → (S → ℕ) → S → S → SourceCourse
source_course left faults before now = record { left = left before; left_now = left now; faults = faults before; faults_now = faults now }

abbrev pub sink_course : {K : Type 0} → (K → Option (List ℕ)) → (K → ℕ) → K → K → SinkCourse
sink_course held faults before now = record { held = held before; held_now = held now; faults = faults before; faults_now = faults now }

-- a read failed
abbrev pub ReadFailed : SourceCourse → Type 0
ReadFailed source = Rose source.faults source.faults_now

-- a write failed
abbrev pub WriteFailed : SinkCourse → Type 0
WriteFailed sink = Rose sink.faults sink.faults_now

-- the sink grew by the text
abbrev pub Wrote : SinkCourse → List ℕ → Type 0
Wrote sink text = Appends sink.held sink.held_now text

-- the status, or 5 or 6 in its place
abbrev pub EndsIn : ℕ → ℕ → Type 0
EndsIn status result = (result ≡ status) ⊎ ((result ≡ 5) ⊎ (result ≡ 6))

-- the text was written and the answer is its status, or a write failed and it is 5, or memory was wanting and it is 6, with a front of the text
abbrev pub Ends : SinkCourse → List ℕ → ℕ → ℕ → Type 0
Ends sink text status result =
    ((result ≡ status) × Wrote sink text)
    ⊎ (((result ≡ 5) × WriteFailed sink × AppendsFront sink.held sink.held_now text)
    ⊎ ((result ≡ 6) × AppendsFront sink.held sink.held_now text))

-- memory was wanting before anything was written
abbrev pub Starves : SinkCourse → ℕ → Type 0
Starves sink result = (result ≡ 6) × (sink.held_now ≡ sink.held)

-- how a call ends that is to write this text
abbrev pub Concludes : SinkCourse → List ℕ → ℕ → ℕ → Type 0
Concludes sink text status result = Starves sink result ⊎ Ends sink text status result
