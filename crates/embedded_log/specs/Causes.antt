-- What the end of a walk stands on: the word that was found, by what was read.
use Rattle.std.specs.Prelude.{◌≡◌, ℕ, ◌⊎◌, false, Option, Some, None}
use Rattle.machine.specs.LinkWalk.{AtHead, AtObject, LinkWalk, Phase, newer_link}
use Rattle.machine.specs.ObjectNames.{names_object}
use Rattle.object_form.specs.declared.links.Link.{Link}

-- a pointer names no object of the class that is walked
abbrev pub NamesNone : LinkWalk → ℕ → Type 0
NamesNone walk pointer = names_object walk.view.shape walk.class pointer ≡ false

-- the object has no newer link of the client: it is the reserve
abbrev pub IsReserve : LinkWalk → ℕ → ℕ → Option (ℕ × ℕ) → Option ℕ → Type 0
IsReserve walk pointer found last reserve = (newer_link walk found ≡ None) × (last ≡ walk.last) × (reserve ≡ Some pointer)

-- the object has a newer link, and that names no object: it is the last, and there is no reserve
abbrev pub IsLastOfAll : LinkWalk → ℕ → ℕ → Option (ℕ × ℕ) → Option ℕ → Type 0
IsLastOfAll walk pointer found last reserve =
    (link : Link) × (newer_link walk found ≡ Some link) × NamesNone walk link.next × (last ≡ Some (pointer, link.call)) × (reserve ≡ None)

-- a walk ends at this word, with this last object and this reserve
abbrev pub EndsWith : Phase → LinkWalk → ℕ → Option (ℕ × ℕ) → Option ℕ → Type 0
EndsWith AtHead walk found last reserve = NamesNone walk found × (last ≡ walk.last) × (reserve ≡ None)
EndsWith (AtObject pointer) walk found last reserve =
    IsReserve walk pointer found last reserve ⊎ IsLastOfAll walk pointer found last reserve
