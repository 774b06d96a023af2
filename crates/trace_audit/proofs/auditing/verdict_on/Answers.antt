use Rattle.std.proofs.Common.{◌≡◌, ◌∙◌, ap, map, length, arith}
use Rattle.std.proofs.lemmas.List.{length-map}
use Rattle.trace_audit.specs.Listing.{entry_of}
use Rattle.trace_audit.specs.Told.{history_of, trace_of}
use Rattle.trace_audit.proofs.auditing.verdict_on.Goals as goal

pub returns-in-Some : goal.returns-in-Some
returns-in-Some c =
    let reading = rw c.in-Calls.is at c.in_ok-calls.ensures in
    let judged = rw c.in-Sound.is at (c.in_ok-at.ensures (trace_of c.args.lines.now) reading.1) in
    let entries : map entry_of c.deref.result.now ≡ history_of c.args.lines.now = ap (map entry_of) c.deref.ensures.value ∙ c.in_ok-list.ensures.entries in
    let sound = rw entries at judged in
    (reading.0, sound.0, c.in-Some.ensures _ sound.1)

pub returns : goal.returns
returns c =
    let reading = rw c.in-Calls.is at c.in_ok-calls.ensures in
    let judged = rw c.in-Sound.is at (c.in_ok-at.ensures (trace_of c.args.lines.now) reading.1) in
    let entries : map entry_of c.deref.result.now ≡ history_of c.args.lines.now = ap (map entry_of) c.deref.ensures.value ∙ c.in_ok-list.ensures.entries in
    let sound = rw entries at judged in
    let size = ap length c.in_ok-list.ensures.entries in
    let mapped = length-map c.in_ok-list.list.items entry_of in
    (reading.0, sound.0, c.in-None.ensures _ sound.1, omega (arith, size, mapped, c.len.ensures, c.in_ok-list.list.ok.0))
