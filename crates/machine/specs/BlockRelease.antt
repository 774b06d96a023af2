-- The end of a recovery: the client's begin word is written even, and each block that the client owns is released.
use Rattle.std.specs.Prelude.{ℕ, ◌+◌, ◌*◌, ◌%◌, ◌^◌, ◌==◌, nat_lt, if◌then◌else◌, Option, Some, None}
use Rattle.block_alloc.specs.declared.BlockWord.{BlockWord}
use Rattle.block_alloc.specs.declared.BlockWord.TheVariants.{Unused, Owned, Released}
use Rattle.block_alloc.specs.BlockWord.{block_in, word_of}
use Rattle.machine.specs.declared.recovery.Recovering.{Recovering}
use Rattle.machine.specs.declared.recovery.Recovering.TheVariants.{Going, Recovered, NotYet}
use Rattle.machine.specs.Places.{control, primary_place, replica_count, written_place}
use Rattle.machine.specs.RecoveryStage.{Recovery, Stage, ReadBlock, Spread, Release, view_of, word_at_block}
use Rattle.machine.specs.Turn.{Turn}
use Rattle.region_view.specs.Control.{Begin}
use Rattle.verb_words.specs.declared.verbs.Verb.{Verb}
use Rattle.verb_words.specs.declared.verbs.Verb.TheVariants.{Read, Write, Swap}
use Rattle.verb_words.specs.declared.verbs.Why.{Why}
use Rattle.verb_words.specs.declared.verbs.Why.TheVariants as why

abbrev pub goes_to : Recovery → Stage → Turn Recovery Recovering
goes_to recovery stage = record { state = record recovery { stage = stage }; told = Going }

abbrev pub idles : Recovery → Turn Recovery Recovering
idles recovery = record { state = recovery; told = Going }

abbrev pub gives_up : Recovery → Why → Turn Recovery Recovering
gives_up recovery reason = record { state = recovery; told = NotYet reason }

-- a node refused the verb, since it is lost
abbrev pub refused : Recovery → ℕ → Turn Recovery Recovering
refused recovery node = gives_up recovery (why.Lost node)

-- the begin word of a client after its last call
abbrev pub even_begin : Recovery → ℕ
even_begin recovery = 2 * recovery.number % 2 ^ 64

abbrev pub write_begin : Recovery → Verb
write_begin recovery = Write (control (Begin recovery.client)) (even_begin recovery)

abbrev pub read_block : Recovery → Verb
read_block recovery = Read (primary_place (view_of recovery) (word_at_block recovery))

abbrev pub spread : Recovery → ℕ → ℕ → Verb
spread recovery class backup = Write (written_place (view_of recovery) (word_at_block recovery) backup) (word_of (Released class))

abbrev pub release : Recovery → ℕ → Verb
release recovery class =
    Swap (primary_place (view_of recovery) (word_at_block recovery)) (word_of (Owned recovery.client class)) (word_of (Released class))

-- the block at a position is read; after the last the client is recovered
abbrev pub block_from : Recovery → ℕ → Turn Recovery Recovering
block_from recovery position =
    if nat_lt position (recovery.shape.regions * recovery.shape.blocks)
    then goes_to (record recovery { position = position }) ReadBlock
    else record { state = recovery; told = Recovered }

abbrev pub first_block : Recovery → Turn Recovery Recovering
first_block recovery = block_from recovery 0

abbrev pub next_block : Recovery → Turn Recovery Recovering
next_block recovery = block_from recovery (recovery.position + 1)

-- the backups from this one on get the block's word, and then the primary
abbrev pub spreads_from : Recovery → ℕ → ℕ → Turn Recovery Recovering
spreads_from recovery class backup =
    if nat_lt (backup + 1) (replica_count (view_of recovery) (word_at_block recovery))
    then goes_to recovery (Spread class backup)
    else goes_to recovery (Release class)

-- a block that the client owns is released, and any other is passed over
abbrev pub on_block : Recovery → Option BlockWord → Turn Recovery Recovering
on_block recovery None = next_block recovery
on_block recovery (Some Unused) = next_block recovery
on_block recovery (Some (Released class)) = next_block recovery
on_block recovery (Some (Owned client class)) =
    if client == recovery.client then spreads_from recovery class 0 else next_block recovery

abbrev pub on_block_word : Recovery → ℕ → Turn Recovery Recovering
on_block_word recovery found = on_block recovery (block_in found)
