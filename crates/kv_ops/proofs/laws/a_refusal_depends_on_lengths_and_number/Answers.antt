use Rattle.std.proofs.Common.{◌==◌, Some, None, if◌then◌else◌}
use Rattle.std.specs.Prelude.{nat_le, nat_lt, ◌&&◌}
use Rattle.machine.specs.declared.client_call.Before.TheVariants.{KeyLength, ValueLength, Spent}
use Rattle.object_form.specs.declared.classes.TheConstants.{LONGEST}
use Rattle.kv_ops.proofs.laws.a_refusal_depends_on_lengths_and_number.Goals as goal

pub returns : goal.returns
returns c = λ one other key_len value_len number shape i.
    if nat_lt 0 key_len && nat_le key_len 64
    then (if nat_le value_len LONGEST
    then (if number i == (shape i).calls then Some Spent else None)
    else Some (ValueLength value_len))
    else Some (KeyLength key_len)
