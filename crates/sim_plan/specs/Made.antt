-- The calls that a client makes by itself: each is read off one word of a generator that was seeded with a number.
use Rattle.std.specs.Prelude.{ℕ, ◌+◌, ◌/◌, ◌%◌, ◌^◌, ◌==◌, nat_lt, if◌then◌else◌, List, ◌++◌, codes, decimal, map}
use Rattle.map_model.specs.declared.calls.Call.{Call}
use Rattle.map_model.specs.declared.calls.Call.TheVariants.{Get, Put, Delete}
use Rattle.rand_core.specs.Pcg32Seed.{pcg32_seed}
use Rattle.rand_core.specs.Steps.{first_words}
use Rattle.rand_pcg.specs.Lcg.{Lcg}
use Rattle.rand_pcg.specs.Pcg.{pcg32, pcg32_of_seed}

-- the key of a word: one of k0 to k63
abbrev pub key_of : ℕ → List ℕ
key_of word = codes "k" ++ decimal (word % 64)

-- the value of a word: its upper half in decimal
abbrev pub value_of : ℕ → List ℕ
value_of word = decimal (word / 2 ^ 16)

-- the call of a word: of four kinds two are puts, then comes a get, then a delete
abbrev pub call_of : ℕ → Call
call_of word =
    let kind = word / 2 ^ 8 % 4 in
    if nat_lt kind 2 then Put (key_of word) (value_of word)
    else if kind == 2 then Get (key_of word)
    else Delete (key_of word)

-- a generator that was seeded with a number
abbrev pub seeded : ℕ → Lcg
seeded seed = pcg32_of_seed (pcg32_seed 16 seed)

-- the plan of a client: the calls of the first words of a generator of its own
abbrev pub plan : ℕ → ℕ → ℕ → List Call
plan seed who calls = map call_of (first_words pcg32 calls (seeded ((seed + who) % 2 ^ 64)))
