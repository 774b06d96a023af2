-- The theorem on grace over the rows of the machine.
use Rattle.std.proofs.Common.{◌≡◌, ◌≢◌, ℕ, ◌%◌, ◌≤◌, ◌==◌, inl, inr, false, List, [], ◌∷◌, ◌++◌, refl, sym, ap, subst, ◌∙◌}
use Rattle.machine.specs.EpochRead.{IsView}
use Rattle.machine.specs.ObjectNames.{IsObject, Object}
use Rattle.region_view.specs.Placed.{Viewed}
use Rattle.reuse_grace.proofs.GraceLemmas.{begins-taken}
use Rattle.reuse_grace.specs.Allowed as graced
use Rattle.reuse_grace.specs.Stock as grace
use Rattle.reuse_grace.specs.Stock.{Ripe}
use Rattle.object_division.specs.Allowed.{IsAllowed, MayHappen, stock_of}
use Rattle.object_division.specs.Claims.{HasGrace, IsClientOf, Takes}
use Rattle.object_division.specs.Client.{Under, Untaken}
use Rattle.object_division.specs.Marks.{IsRipe}
use Rattle.object_division.specs.Run.{Event, State, begin_word, opening, renewed, run}
use Rattle.object_division.proofs.ClassLemmas.{allowed_parts, taken_granted, used_object}
use Rattle.object_division.proofs.DividedLemmas.{stocked_after}
use Rattle.object_division.proofs.OwnLemmas.{clearings_good}
use Rattle.division_grace.proofs.FirstLemmas.{first_machine, first_of, first_sees, nothing_of, used_sees}
use Rattle.division_grace.proofs.FollowLemmas.{Follows, Goes, IsOut, IsReached, follows_run, out_run, reached_run, reached_sound, reached_view}
use Rattle.division_grace.proofs.HoldLemmas.{IsRipeIn}
use Rattle.division_grace.proofs.LeadLemmas.{IsAllowed-both as allowed-both}
use Rattle.division_grace.proofs.SeenLemmas.{Sees}

-- the object that a client takes is ripe in the machine
ripe_taken : (view : Viewed) (state : State) (event : Event) (client : ℕ) (object : Object) (machine : grace.State)
    → IsReached view state → MayHappen state event → Takes state event client object
    → Follows state client object machine → machine.marks object.pointer ≡ Ripe
ripe_taken view state event client object machine reached may takes follows =
    let active = (subst (λ e. MayHappen state e) takes.next may).0.active in
    let sees : Sees object (state.clients client).stock machine =
    subst (λ c. Sees object (renewed (state.clients client) c).stock machine) takes.clears (follows.sees active) in
    sees.known.ripe (in_stock good)
  where
    good : IsRipe (stock_of (state.clients client) object.class).own object.class object.pointer
    good =
        subst (λ (o : Object). IsRipe (stock_of (state.clients client) o.class).own o.class o.pointer) (sym takes.object_is)
        (subst
        (λ s. (s.clients client).clearing ≡ Under takes.class takes.given takes.change
        → IsRipe (stock_of (s.clients client) takes.class).own takes.class takes.given.object) reached.is
        (λ clears.
        (clearings_good view reached.past reached.is_view reached.allowed client takes.class takes.given takes.change clears).object)
        takes.clears)

    in_stock : IsRipe (stock_of (state.clients client) object.class).own object.class object.pointer
        → IsRipeIn object (stock_of (state.clients client) object.class).own
    in_stock ripe =
        record { own = ripe.own; has = ripe.has; region_is = sym ripe.region; block_is = sym ripe.block; holds = ripe.ripe }

-- a run of the machine up to the object's taking, and the begin words of another client in it
record IsPlayed (start : grace.State) (object other first then : ℕ) : Type 0 where
  pub before : List grace.Event
  pub between : List grace.Event
  pub allowed : graced.IsAllowed start (before ++ (between ++ grace.Take object ∷ []))
  pub out : (grace.run start before).stock object ≡ false
  pub first_is : (grace.run start before).begins other ≡ first
  pub then_is : (grace.run (grace.run start before) between).begins other ≡ then

played : (view : Viewed) (before between : List Event) (event : Event) (client other : ℕ) (object : Object) → IsView view
    → IsAllowed (opening view) (before ++ (between ++ event ∷ [])) → IsClientOf (opening view) other
    → ((run (opening view) before).uses object ≢ Untaken)
    → Takes (run (run (opening view) before) between) event client object
    → IsPlayed (first_machine view client) object.pointer other (begin_word (run (opening view) before) other)
    (begin_word (run (run (opening view) before) between) other)
played view before between event client other object is allowed number used takes =
    record {
      before = out.events;
      between = rest.events;
      allowed =
          allowed-both start out.events (rest.events ++ grace.Take object.pointer ∷ []) out.allowed
          (allowed-both middle rest.events (grace.Take object.pointer ∷ []) rest.allowed (
            ripe_taken view last event client object (grace.run middle rest.events) reached_last parts'.1.0 takes rest.after,
            tt,
          ));
      out = out.after.out;
      first_is = out.after.of.begins other number.0 (most now (reached_view view now reached));
      then_is = rest.after.of.begins other number.0 (most last (reached_view view last reached_last));
    }
  where
    start : grace.State
    start = first_machine view client

    now : State
    now = run (opening view) before

    last : State
    last = run now between

    parts : IsAllowed (opening view) before × IsAllowed now (between ++ event ∷ [])
    parts = allowed_parts (opening view) before (between ++ event ∷ []) allowed

    parts' : IsAllowed now between × IsAllowed last (event ∷ [])
    parts' = allowed_parts now between (event ∷ []) parts.1

    first : IsReached view (opening view)
    first = record { is_view = is; past = []; allowed = tt; is = refl }

    reached : IsReached view now
    reached = record { is_view = is; past = before; allowed = parts.0; is = refl }

    reached_last : IsReached view last
    reached_last = reached_run view now between reached parts'.0

    is_object : IsObject now.view.shape object
    is_object = used_object now.view object (now.uses object) ((reached_sound view now reached).uses object) used

    out : Goes start (λ later. IsOut now client object later)
    out = out_run view (opening view) before object client start first parts.0
        (record { of = first_of view client is; unmarked = refl; out = refl })

    middle : grace.State
    middle = grace.run start out.events

    -- how the choosing stands is known from the steps before
    stands : Goes start (λ later. Follows now client (nothing_of object.class) later)
    stands = follows_run view (opening view) before (nothing_of object.class) client start first parts.0 (inr refl)
        (record { of = first_of view client is; sees = first_sees view client (nothing_of object.class) })

    rest : Goes middle (λ later. Follows last client object later)
    rest = follows_run view now between object client middle reached parts'.0
        (inl (is_object, taken_granted view before is parts.0 object used))
        (record {
          of = out.after.of;
          sees =
              used_sees view before client object middle (grace.run start stands.events) is parts.0
              (stocked_after view before is parts.0) is_object used stands.after.sees;
        })

    most : (state : State) → state.view ≡ view → other ≤ state.view.shape.clients
    most state same = subst (λ (v : Viewed). other ≤ v.shape.clients) (sym same) number.1

pub grace_holds : (view : Viewed) → IsView view → HasGrace (opening view)
grace_holds view is before between event client other object allowed number apart inside used takes same =
    begins-taken client view.shape.clients (λ object. false) all.before all.between other object.pointer all.allowed apart
    (ap (λ w. w % 2 == 1) all.first_is ∙ inside) all.out (all.then_is ∙ (same ∙ sym all.first_is))
  where
    all : IsPlayed (first_machine view client) object.pointer other (begin_word (run (opening view) before) other)
        (begin_word (run (run (opening view) before) between) other)
    all = played view before between event client other object is allowed number used takes
