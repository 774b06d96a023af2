-- What holds of a resolution, and where its verbs go.
use Rattle.std.proofs.Common.{◌≡◌, ℕ, ◌*◌, ◌^◌, ◌<◌, List, length, sym, ap, subst, arith}
use Rattle.kv_write.specs.Resolutions.{IsHeld}
use Rattle.machine.specs.EpochRead.{IsView}
use Rattle.machine.specs.ObjectNames.{IsObject, Object}
use Rattle.machine.specs.Places.{IsInPool, object_word}
use Rattle.machine.specs.Resolution.{Resolution, next, resolution_of, version_walk_of}
use Rattle.machine.proofs.ObjectNamesLemmas.{names_object-says}
use Rattle.machine.proofs.ResolutionLemmas.{next-inside, resolution_of-is}
use Rattle.key_test.proofs.StateLemmas.{first_word-has}
use Rattle.object_form.specs.Class.{IsKeyLength}
use Rattle.region_view.specs.Layout.{HasWord}
use Rattle.region_view.specs.Placed.{Viewed}
use Rattle.region_view.specs.Sizes.{Sizes}
use Rattle.verb_words.specs.declared.verbs.Verb.{Verb}
use Rattle.verb_words.specs.Verb.{place_of}

pub begun-held : (view : Viewed) (slot expect fresh version : ℕ) (key : List ℕ) → IsView view → slot < 24 * view.shape.groups → IsKeyLength (length key) → IsHeld (resolution_of view slot expect fresh version key)
begun-held view slot expect fresh version key is below len = record { state = resolution_of-is view slot expect fresh version key is len.0 below; key = len }

pub walking-held : (view : Viewed) (slot expect fresh version : ℕ) (key : List ℕ) (object : Object) → IsView view → slot < 24 * view.shape.groups → IsKeyLength (length key) → IsObject view.shape object
    → IsHeld (version_walk_of view slot expect fresh version key object)
walking-held view slot expect fresh version key object is below len named =
    let begun = resolution_of-is view slot expect fresh version key is len.0 below in
    record { state = record { held = begun.held; is_view = begun.is_view; some = begun.some; slot = begun.slot; phase = named }; key = len }

-- the verb that is due goes to a place of the pool
pub due-inside : (resolution now : Resolution) (verb : Verb) → IsHeld resolution → resolution ≡ now → verb ≡ next now → IsInPool now.view.shape (place_of verb)
due-inside resolution now verb held is due =
    let here : IsHeld now = subst IsHeld is held in
    let P : Verb → Type 0 = λ v. IsInPool now.view.shape (place_of v) in
    subst P (sym due) (next-inside now.view now here.state)

pub object-low : (sizes : Sizes) (given object : Object) → IsObject sizes object → given ≡ object → given.pointer < 2 ^ 28
object-low sizes given object is same = let pointer = ap (λ (o : Object). o.pointer) same in omega (arith, (names_object-says sizes object.class object.pointer is.named).below)

pub object-has : (sizes : Sizes) (given object : Object) → IsObject sizes object → given ≡ object → HasWord sizes (object_word given.pointer 0)
object-has sizes given object is same = let P : Object → Type 0 = λ o. HasWord sizes (object_word o.pointer 0) in subst P (sym same) (first_word-has sizes object is)
