-- The link word of an object: a client in bits 52 to 63, the number of its call in bits 28 to 51,
-- and the pointer to its next reserve in bits 0 to 27.
use Rattle.std.specs.Prelude.{◌≡◌, ℕ, ◌+◌, ◌*◌, ◌/◌, ◌%◌, ◌^◌, ◌<◌, ◌≤◌, ◌⊎◌, Bool, ◌&&◌, ◌||◌, ◌==◌, nat_le, if◌then◌else◌, Option, Some, None}
use Rattle.pointer_fields.specs.Pointer.{region_of}
use Rattle.object_form.specs.declared.links.Link.{Link}

-- no reserve, or the pointer to one, in a region from 1 to 63
abbrev pub IsNext : ℕ → Type 0
IsNext next = (next ≡ 0) ⊎ ((1 ≤ region_of next) × (region_of next ≤ 63))

-- a link may have this client, this call and this next reserve
pub record IsLink (link : Link) : Type 0 where
  pub client : (1 ≤ link.client) × (link.client ≤ 64)
  pub call : (1 ≤ link.call) × (link.call < 2 ^ 24)
  pub next : IsNext link.next

-- the link word
abbrev pub word_of_link : Link → ℕ
word_of_link link = link.client * 2 ^ 52 + link.call * 2 ^ 28 + link.next

-- what stands in a word in the bits of the fields
abbrev pub link_fields : ℕ → Link
link_fields word = record { client = word / 2 ^ 52; call = word / 2 ^ 28 % 2 ^ 24; next = word % 2 ^ 28 }

-- whether a link may have this next reserve
abbrev pub is_next : ℕ → Bool
is_next next = (next == 0) || (nat_le 1 (region_of next) && nat_le (region_of next) 63)

-- whether a link may have these fields
abbrev pub is_link : Link → Bool
is_link link = nat_le 1 link.client && nat_le link.client 64 && nat_le 1 link.call && is_next link.next

-- the link that a word says, if it says one
unfoldable pub link_in : ℕ → Option Link
link_in word = if is_link (link_fields word) then Some (link_fields word) else None
