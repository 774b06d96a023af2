use Rattle.std.proofs.Common.{map, refl, ◌∙◌, sym, ap, arith}
use Rattle.std.proofs.lemmas.Option.{slice_get_read}
use Rattle.map_model.specs.Map.{after}
use Rattle.trace_audit.specs.Listing.{entry_of}
use Rattle.trace_audit.specs.Told.{call_of, reply_of}
use Rattle.trace_audit.proofs.JudgeLemmas.{mapped_at, names_more, faultless_more, held_more}
use Rattle.trace_audit.proofs.judging.judge.Goals as goal

pub returns-in-Some : goal.returns-in-Some
returns-in-Some c = λ trace told.
    let time = slice_get_read c.in_ok-later.later.items c.in_ok-later.later.len c.loop-i.i c.index.result.now c.in_ok-later.later.ok.0 (omega (arith, c.in_ok-later.ensures.length)) c.index.ensures in
    record {
      place = c.loop-i.i;
      entry = entry_of c.index-list-i.result;
      counted = refl;
      there = mapped_at entry_of c.args.list.now c.loop-i.i c.index-list-i.result c.loop-i-test.true c.index-list-i.is;
      first = c.in-Some.ensures trace (map entry_of c.args.list.now) c.loop-i.i (record { told = told; listed = c.loop-i.invariant.names; replies = c.loop-i.invariant.held; returns = c.in_ok-later.ensures.earliest trace told c.loop-i.i c.index.result.now time });
      before = c.loop-i.invariant.faultless trace told;
      client_is = refl;
      call_is = refl;
    }

pub loop-i-preserved : goal.loop-i-preserved
loop-i-preserved c =
    let time = slice_get_read c.in_ok-later.later.items c.in_ok-later.later.len c.loop-i.i c.index.result.now c.in_ok-later.later.ok.0 (omega (arith, c.in_ok-later.ensures.length)) c.index.ensures in
    let there = mapped_at entry_of c.args.list.now c.loop-i.i c.index-list-i.result c.loop-i-test.true c.index-list-i.is in
    record {
      faultless = λ trace told. faultless_more trace (map entry_of c.args.list.now) c.loop-i.i (entry_of c.index-list-i.result) there (c.loop-i.invariant.faultless trace told)
          (c.in_default.ensures trace (map entry_of c.args.list.now) c.loop-i.i (record { told = told; listed = c.loop-i.invariant.names; replies = c.loop-i.invariant.held; returns = c.in_ok-later.ensures.earliest trace told c.loop-i.i c.index.result.now time }));
      names = names_more (map entry_of c.args.list.now) c.loop-i.i c.loop-i.names c.add_name.new.names (entry_of c.index-list-i.result) there c.in_ok-add_name.ensures c.loop-i.invariant.names;
      held = c.in_ok-perform.ensures ∙ ap (λ m. after m (call_of c.index-list-i.result.call.now) (reply_of c.index-list-i.result.reply.now)) c.loop-i.invariant.held ∙ sym (held_more (map entry_of c.args.list.now) c.loop-i.i (entry_of c.index-list-i.result) there);
    }
