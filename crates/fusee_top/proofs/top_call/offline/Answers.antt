use Rattle.std.proofs.Common.{map}
use Rattle.std.specs.String.{string_bytes}
use Rattle.fusee_top.proofs.OfflineLemmas.{HasBadLine-answers, HasReadFault-answers, HasUsage-answers, IsStatus-answers, IsTooLarge-answers, LeavesFront-answers, RanAudit-answers, RanLeases-answers, RanScript-answers, complete_by, decided_by, only_usage_of, simulated-answers, write_fault_of}
use Rattle.fusee_top.proofs.CommandLemmas.{AreTerms-named}
use Rattle.fusee_top.proofs.top_call.offline.Goals as goal

pub returns-clause-script : goal.returns-clause-script
returns-clause-script g c = RanScript-answers _ _ _ _ c.conduct.ensures.answer

pub returns-clause-audit : goal.returns-clause-audit
returns-clause-audit g c = RanAudit-answers _ _ _ _ c.conduct.ensures.answer

pub returns-clause-leases : goal.returns-clause-leases
returns-clause-leases g c = λ done terms names. RanLeases-answers _ _ _ _ terms c.conduct.ensures.answer done names (AreTerms-named (map string_bytes c.args.words.now) terms names)

pub returns-clause-sim : goal.returns-clause-sim
returns-clause-sim g c = λ done numbers. simulated-answers _ _ _ _ numbers c.conduct.ensures.answer done

pub returns-clause-usage : goal.returns-clause-usage
returns-clause-usage g c = HasUsage-answers _ _ _ _ c.conduct.ensures.answer

pub returns-clause-only_usage : goal.returns-clause-only_usage
returns-clause-only_usage g c = only_usage_of _ _ _ _ c.conduct.ensures.answer

pub returns-clause-bad_line : goal.returns-clause-bad_line
returns-clause-bad_line g c = HasBadLine-answers _ _ _ _ c.conduct.ensures.answer

pub returns-clause-read_fault : goal.returns-clause-read_fault
returns-clause-read_fault g c = HasReadFault-answers _ _ _ _ c.conduct.ensures.answer

pub returns-clause-write_fault : goal.returns-clause-write_fault
returns-clause-write_fault g c = write_fault_of _ _ _ _ c.conduct.ensures.answer

pub returns-clause-front : goal.returns-clause-front
returns-clause-front g c = λ stopped. LeavesFront-answers _ _ _ _ c.conduct.ensures.answer

pub returns-clause-too_large : goal.returns-clause-too_large
returns-clause-too_large g c = IsTooLarge-answers _ _ _ _ c.conduct.ensures.answer

pub returns-clause-decided : goal.returns-clause-decided
returns-clause-decided g c = λ command input. decided_by _ _ _ _ command input c.conduct.ensures.answer

pub returns-clause-complete : goal.returns-clause-complete
returns-clause-complete g c = λ command input. complete_by _ _ _ _ command input c.conduct.ensures.answer

pub returns-clause-numbers : goal.returns-clause-numbers
returns-clause-numbers g c = IsStatus-answers _ _ _ _ c.conduct.ensures.answer
