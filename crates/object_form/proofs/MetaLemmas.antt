use Rattle.std.proofs.Common.{◌≡◌, ◌≢◌, ℕ, ◌/◌, ◌%◌, ◌^◌, ◌<◌, ◌≤◌, refl, sym, ◌∙◌, ap, arith}
use Rattle.std.specs.Prelude.{Option, Some, None, IfSome, IfNone}
use Rattle.object_form.specs.declared.metas.Kind.{Kind}
use Rattle.object_form.specs.declared.metas.Kind.TheVariants.{Value, Tombstone}
use Rattle.object_form.specs.declared.metas.Meta.{Meta}
use Rattle.object_form.specs.Meta.{code_of, longest_of, word_of_meta, IsMeta}

-- no kind has a value longer than 1952 bytes
pub longest_of_le : (kind : Kind) → longest_of kind ≤ 1952
longest_of_le Value = omega arith
longest_of_le Tombstone = omega arith

-- kinds with one code are one kind
pub code_of-inj : (a b : Kind) → code_of a ≡ code_of b → a ≡ b
code_of-inj Value Value same = refl
code_of-inj Value Tombstone same = absurd (omega arith)
code_of-inj Tombstone Value same = absurd (omega arith)
code_of-inj Tombstone Tombstone same = refl

-- the fields stand in their bits of the meta word
pub code-word_of_meta : (meta : Meta) → IsMeta meta → word_of_meta meta / 2 ^ 32 ≡ code_of meta.kind
code-word_of_meta meta is =
    let code = code_of meta.kind in
    let short : meta.value_len ≤ 1952 = omega (arith, is.value, longest_of_le meta.kind) in
    omega (arith, is.key, short)

pub key_len-word_of_meta : (meta : Meta) → IsMeta meta → word_of_meta meta / 2 ^ 16 % 2 ^ 16 ≡ meta.key_len
key_len-word_of_meta meta is =
    let short : meta.value_len ≤ 1952 = omega (arith, is.value, longest_of_le meta.kind) in
    omega (arith, is.key, short)

pub value_len-word_of_meta : (meta : Meta) → IsMeta meta → word_of_meta meta % 2 ^ 16 ≡ meta.value_len
value_len-word_of_meta meta is =
    let short : meta.value_len ≤ 1952 = omega (arith, is.value, longest_of_le meta.kind) in
    omega (arith, is.key, short)

-- the code of a kind is 1 or 2
code_of_le : (kind : Kind) → code_of kind ≤ 2
code_of_le Value = omega arith
code_of_le Tombstone = omega arith

-- a meta word has 40 bits
pub word_of_meta-lt : (meta : Meta) → IsMeta meta → word_of_meta meta < 2 ^ 40
word_of_meta-lt meta is =
    let short : meta.value_len ≤ 1952 = omega (arith, is.value, longest_of_le meta.kind) in
    omega (arith, is.key, short, code_of_le meta.kind)

-- metas with the same parts are the same
pub meta_ext : (a b : Meta) → a.kind ≡ b.kind → a.key_len ≡ b.key_len → a.value_len ≡ b.value_len → a ≡ b
meta_ext a b kinds keys values =
    ap (λ k. let r : Meta = record { kind = k; key_len = a.key_len; value_len = a.value_len } in r) kinds
    ∙ ap (λ n. let r : Meta = record { kind = b.kind; key_len = n; value_len = a.value_len } in r) keys
    ∙ ap (λ n. let r : Meta = record { kind = b.kind; key_len = b.key_len; value_len = n } in r) values

-- two metas of one word are one
pub word_of_meta-inj : (a b : Meta) → IsMeta a → IsMeta b → word_of_meta a ≡ word_of_meta b → a ≡ b
word_of_meta-inj a b is_a is_b same =
    meta_ext a b
    (code_of-inj a.kind b.kind (sym (code-word_of_meta a is_a) ∙ ap (λ w. w / 2 ^ 32) same ∙ code-word_of_meta b is_b))
    (sym (key_len-word_of_meta a is_a) ∙ ap (λ w. w / 2 ^ 16 % 2 ^ 16) same ∙ key_len-word_of_meta b is_b)
    (sym (value_len-word_of_meta a is_a) ∙ ap (λ w. w % 2 ^ 16) same ∙ value_len-word_of_meta b is_b)

-- what is read where a meta word stands is its meta, as `meta_of` says what is read
pub meta_back : (meta : Meta) (word : ℕ) (read : Option Meta) → IsMeta meta → word ≡ word_of_meta meta
    → IfSome read (λ found. IsMeta found × (word_of_meta found ≡ word))
    → IfNone read ((other : Meta) → IsMeta other → word_of_meta other ≢ word) → read ≡ Some meta
meta_back meta word (Some found) is written some none =
    ap Some (word_of_meta-inj found meta some.0 is (some.1 ∙ written))
meta_back meta word None is written some none = absurd (none meta is (sym written))
