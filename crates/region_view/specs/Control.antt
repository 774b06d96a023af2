-- Positions on the control node.
use Rattle.std.specs.Prelude.{ℕ, ◌+◌, ◌-◌, ◌*◌, ◌<◌, ◌≤◌}

-- the begin word of a client; its pause word and its head words, one for each class, follow
abbrev pub begin_position : ℕ → ℕ
begin_position client = 16 + 16 * (client - 1)

abbrev pub pause_position : ℕ → ℕ
pause_position client = begin_position client + 1

abbrev pub head_position : ℕ → ℕ → ℕ
head_position client class = begin_position client + 2 + class

-- a word of the control node that has a use
pub data ControlWord : Type 0 where
  EpochWord : ControlWord
  Status : (node : ℕ) → ControlWord
  Begin : (client : ℕ) → ControlWord
  Pause : (client : ℕ) → ControlWord
  Head : (client class : ℕ) → ControlWord

-- there is such a word: nodes are 1 to 8, clients 1 to 64, and each client has eight head words
abbrev pub HasControlWord : ControlWord → Type 0
HasControlWord EpochWord = Unit {0}
HasControlWord (Status node) = (1 ≤ node) × (node ≤ 8)
HasControlWord (Begin client) = (1 ≤ client) × (client ≤ 64)
HasControlWord (Pause client) = (1 ≤ client) × (client ≤ 64)
HasControlWord (Head client class) = (1 ≤ client) × (client ≤ 64) × (class < 8)

-- where it lies
abbrev pub control_position : ControlWord → ℕ
control_position EpochWord = 0
control_position (Status node) = node
control_position (Begin client) = begin_position client
control_position (Pause client) = pause_position client
control_position (Head client class) = head_position client class
