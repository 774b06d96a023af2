use Rattle.std.proofs.Common.{◌≡◌, true, List, ℕ, map, ap, sym, subst, ◌∙◌}
use Rattle.std.specs.String.{string_bytes}
use Rattle.clap.specs.Faults.{fault_of, is_simple_and_free}
use Rattle.clap.specs.Kinds.{HasKind}
use Rattle.clap.specs.Simple.{App, app_of, is_simple, matches_of}
use Rattle.fusee_top.proofs.OptionLemmas.{are_options-refused, are_options-taken, is_free-options, is_simple-options}
use Rattle.fusee_top.proofs.options.matches_of.Goals as goal

pub returns-in-Ok : goal.returns-in-Ok
returns-in-Ok c =
    let names : List (List ℕ) = map (λ name. name.now) c.args.names.now in
    let words : List (List ℕ) = map string_bytes c.args.words.now in
    let app = c.in_ok-command.ensures in
    let simple : is_simple (app_of c.in_ok-command.command) ≡ true = ap is_simple app ∙ is_simple-options names in
    let free : is_simple_and_free (app_of c.in_ok-command.command) ≡ true = ap is_simple_and_free app ∙ is_free-options names in
    (are_options-taken names words (ap (λ a. fault_of a words) (sym app) ∙ c.in-Ok.ensures.kinds free), (c.in-Ok.ensures.matches simple).0 ∙ ap (λ a. matches_of a words) app)

pub returns : goal.returns
returns c =
    let names : List (List ℕ) = map (λ name. name.now) c.args.names.now in
    let words : List (List ℕ) = map string_bytes c.args.words.now in
    let app = c.in_ok-command.ensures in
    let free : is_simple_and_free (app_of c.in_ok-command.command) ≡ true = ap is_simple_and_free app ∙ is_free-options names in
    are_options-refused names words c.in-Err.error (subst (λ (a : App). HasKind (fault_of a words) c.in-Err.error) app (c.in-Err.ensures.kinds free)) (λ starved. c.in_default.not-OutOfMemory (c.kind.ensures ∙ starved))
