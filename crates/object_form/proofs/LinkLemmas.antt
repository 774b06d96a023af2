use Rattle.std.proofs.Common.{◌≡◌, ◌≢◌, ℕ, ◌/◌, ◌%◌, ◌^◌, ◌<◌, inl, inr, sym, ◌∙◌, ap, arith}
use Rattle.std.specs.Prelude.{Option, Some, None, IfSome, IfNone}
use Rattle.object_form.specs.declared.links.Link.{Link}
use Rattle.object_form.specs.Link.{word_of_link, IsNext, IsLink}

-- a next reserve is a pointer of 28 bits, or 0
pub IsNext-lt : (next : ℕ) → IsNext next → next < 2 ^ 28
IsNext-lt next (inl none) = omega (arith, none)
IsNext-lt next (inr region) = omega (arith, region)

-- the fields stand in their bits of the link word
pub client-word_of_link : (link : Link) → IsLink link → word_of_link link / 2 ^ 52 ≡ link.client
client-word_of_link link is =
    let call = is.call in
    let next = IsNext-lt link.next is.next in
    omega (arith, call, next)

pub call-word_of_link : (link : Link) → IsLink link → word_of_link link / 2 ^ 28 % 2 ^ 24 ≡ link.call
call-word_of_link link is =
    let call = is.call in
    let next = IsNext-lt link.next is.next in
    omega (arith, call, next)

pub next-word_of_link : (link : Link) → IsLink link → word_of_link link % 2 ^ 28 ≡ link.next
next-word_of_link link is =
    let next = IsNext-lt link.next is.next in
    omega (arith, next)

-- a link word is not 0
pub word_of_link-pos : (link : Link) → IsLink link → 0 < word_of_link link
word_of_link-pos link is = let client = is.client in omega (arith, client)

-- and has 64 bits
pub word_of_link-lt : (link : Link) → IsLink link → word_of_link link < 2 ^ 64
word_of_link-lt link is =
    let client = is.client in
    let call = is.call in
    let next = IsNext-lt link.next is.next in
    omega (arith, client, call, next)

-- links with the same parts are the same
pub link_ext : (a b : Link) → a.client ≡ b.client → a.call ≡ b.call → a.next ≡ b.next → a ≡ b
link_ext a b clients calls nexts =
    ap (λ n. let r : Link = record { client = n; call = a.call; next = a.next } in r) clients
    ∙ ap (λ n. let r : Link = record { client = b.client; call = n; next = a.next } in r) calls
    ∙ ap (λ n. let r : Link = record { client = b.client; call = b.call; next = n } in r) nexts

-- two links of one word are one
pub word_of_link-inj : (a b : Link) → IsLink a → IsLink b → word_of_link a ≡ word_of_link b → a ≡ b
word_of_link-inj a b is_a is_b same =
    link_ext a b
    (sym (client-word_of_link a is_a) ∙ ap (λ w. w / 2 ^ 52) same ∙ client-word_of_link b is_b)
    (sym (call-word_of_link a is_a) ∙ ap (λ w. w / 2 ^ 28 % 2 ^ 24) same ∙ call-word_of_link b is_b)
    (sym (next-word_of_link a is_a) ∙ ap (λ w. w % 2 ^ 28) same ∙ next-word_of_link b is_b)

-- what is read where a link's word stands is the link, as `link_of` says what is read
pub link_back : (link : Link) (word : ℕ) (read : Option Link) → IsLink link → word ≡ word_of_link link
    → IfSome read (λ found. IsLink found × (word_of_link found ≡ word))
    → IfNone read ((other : Link) → IsLink other → word_of_link other ≢ word) → read ≡ Some link
link_back link word (Some found) is written some none =
    ap Some (word_of_link-inj found link some.0 is (some.1 ∙ written))
link_back link word None is written some none = absurd (none link is (sym written))
