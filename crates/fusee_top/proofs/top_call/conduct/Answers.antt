use Rattle.std.proofs.Common.{Some, sym, ap, map, ◌∙◌}
use Rattle.std.specs.String.{string_bytes}
use Rattle.fusee_top.proofs.CommandLemmas.{MayBe-named}
use Rattle.fusee_top.proofs.OfflineLemmas.{Answers-carried, Answers-met, is_reading-named}
use Rattle.fusee_top.proofs.top_call.conduct.Goals as goal
use Rattle.fusee_top.specs.Offline.{ReadFault, Simulates, TooLarge}

pub run_simulation-requires : goal.run_simulation-requires
run_simulation-requires g c = MayBe-named (map string_bytes c.args.words.now) c.in-Sim.numbers (c.in-Ok.ensures ∙ ap Some c.in-Sim.is)

pub returns-in-Sim-clause-answer : goal.returns-in-Sim-clause-answer
returns-in-Sim-clause-answer g c = Answers-met _ _ _ (Simulates c.in-Sim.numbers) _ (c.in-Ok.ensures ∙ ap Some c.in-Sim.is) c.run_simulation.ensures.ends

pub returns-in-Whole-clause-answer : goal.returns-in-Whole-clause-answer
returns-in-Whole-clause-answer g c =
    Answers-carried _ _ _ c.in-Ok.command c.in-Whole.text c.as_slice.result.now _ c.in-Ok.ensures c.as_slice.ensures c.in-Whole.ensures.input c.carry_out.ensures.ends

pub returns-in-Whole-clause-unread : goal.returns-in-Whole-clause-unread
returns-in-Whole-clause-unread g c = λ unread. absurd (let reads = sym (is_reading-named _ c.in-Ok.command c.in-Ok.ensures c.in_default.not-Sim) ∙ unread in cc)

pub returns-in-TooLarge-clause-answer : goal.returns-in-TooLarge-clause-answer
returns-in-TooLarge-clause-answer g c =
    Answers-met _ _ _ TooLarge _ (is_reading-named _ c.in-Ok.command c.in-Ok.ensures c.in_default.not-Sim, c.in-TooLarge.ensures.input) c.write_notice-in-TooLarge.ensures.ends

pub returns-in-TooLarge-clause-unread : goal.returns-in-TooLarge-clause-unread
returns-in-TooLarge-clause-unread g c = λ unread. absurd (let reads = sym (is_reading-named _ c.in-Ok.command c.in-Ok.ensures c.in_default.not-Sim) ∙ unread in cc)

pub returns-in-Failed-clause-answer : goal.returns-in-Failed-clause-answer
returns-in-Failed-clause-answer g c =
    Answers-met _ _ _ ReadFault _ (is_reading-named _ c.in-Ok.command c.in-Ok.ensures c.in_default.not-Sim, c.in-Failed.ensures.input) c.write_notice-in-Failed.ensures.ends

pub returns-in-Failed-clause-unread : goal.returns-in-Failed-clause-unread
returns-in-Failed-clause-unread g c = λ unread. absurd (let reads = sym (is_reading-named _ c.in-Ok.command c.in-Ok.ensures c.in_default.not-Sim) ∙ unread in cc)
