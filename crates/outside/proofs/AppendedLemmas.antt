-- Appends and reads one after another, and fronts of a text.
use Rattle.std.proofs.Common.{ℕ, ◌+◌, ◌≤◌, List, [], ◌++◌, length, take, None, Some, refl, sym, ap, ◌∙◌, append_assoc, arith, length-append}
use Rattle.std.specs.Prelude.{Option}
use Rattle.std.proofs.lemmas.List.{append-nil, take-append-le}
use Rattle.std.proofs.Math.Seq.{take-append-add, take-length}
use Rattle.std.specs.Io.KnownBytes.{Appends, Consumes, Keeps}
use Rattle.outside.specs.Appended.{AppendsFront}

-- who kept the bytes appended nothing
pub appends_nothing : (a b : Option (List ℕ)) → Keeps a b → Appends a b []
appends_nothing None b k = tt
appends_nothing (Some xs) None k = absurd k
appends_nothing (Some xs) (Some ys) k = k ∙ sym (append-nil xs)

pub appends_then : (a b c : Option (List ℕ)) (xs ys : List ℕ) → Appends a b xs → Appends b c ys → Appends a c (xs ++ ys)
appends_then None b c xs ys p q = tt
appends_then (Some a) None c xs ys p q = absurd p
appends_then (Some a) (Some b) None xs ys p q = absurd q
appends_then (Some a) (Some b) (Some c) xs ys p q = q ∙ ap (λ s. s ++ ys) p ∙ append_assoc a xs ys

-- appending after bytes were kept, and keeping them after an append
pub keeps_appends : (a b c : Option (List ℕ)) (xs : List ℕ) → Keeps a b → Appends b c xs → Appends a c xs
keeps_appends None b c xs k p = tt
keeps_appends (Some a) None c xs k p = absurd k
keeps_appends (Some a) (Some b) None xs k p = absurd p
keeps_appends (Some a) (Some b) (Some c) xs k p = p ∙ ap (λ s. s ++ xs) k

pub appends_keeps : (a b c : Option (List ℕ)) (xs : List ℕ) → Appends a b xs → Keeps b c → Appends a c xs
appends_keeps None b c xs p k = tt
appends_keeps (Some a) None c xs p k = absurd p
appends_keeps (Some a) (Some b) None xs p k = absurd k
appends_keeps (Some a) (Some b) (Some c) xs p k = k ∙ p

-- nothing is a front, the whole is a front, and a front of a text is one of any longer text
pub front_of_nothing : (a b : Option (List ℕ)) (xs : List ℕ) → Appends a b [] → AppendsFront a b xs
front_of_nothing a b xs p = (0, omega arith, p)

pub front_of_all : (a b : Option (List ℕ)) (xs : List ℕ) → Appends a b xs → AppendsFront a b xs
front_of_all a b xs p = (length xs, omega arith, rw (take-length xs) p)

pub front_of_longer : (a b : Option (List ℕ)) (xs ys : List ℕ) → AppendsFront a b xs → AppendsFront a b (xs ++ ys)
front_of_longer a b xs ys p =
    let within : p.0 ≤ length xs = p.1 in
    (p.0, omega (arith, length-append xs ys), rw (take-append-le p.0 xs ys within) p.2)

-- a front of what follows an appended text is a front of both
pub appends_front : (a b c : Option (List ℕ)) (xs ys : List ℕ) → Appends a b xs → AppendsFront b c ys → AppendsFront a c (xs ++ ys)
appends_front a b c xs ys p q =
    (length xs + q.0, omega (arith, length-append xs ys, q.1), rw (take-append-add xs ys q.0) (appends_then a b c xs (take q.0 ys) p q.2))

pub consumes_nothing : (a : Option (List ℕ)) → Consumes a a []
consumes_nothing None = tt
consumes_nothing (Some xs) = refl

pub consumes_then : (a b c : Option (List ℕ)) (xs ys : List ℕ) → Consumes a b xs → Consumes b c ys → Consumes a c (xs ++ ys)
consumes_then None b c xs ys p q = tt
consumes_then (Some a) None c xs ys p q = absurd p
consumes_then (Some a) (Some b) None xs ys p q = absurd q
consumes_then (Some a) (Some b) (Some c) xs ys p q = p ∙ ap (λ s. xs ++ s) q ∙ sym (append_assoc xs ys c)

-- reading the end, or failing, after bytes were read
pub consumes_keeps : (a b c : Option (List ℕ)) (xs : List ℕ) → Consumes a b xs → Keeps b c → Consumes a c xs
consumes_keeps None b c xs p k = tt
consumes_keeps (Some a) None c xs p k = absurd p
consumes_keeps (Some a) (Some b) None xs p k = absurd k
consumes_keeps (Some a) (Some b) (Some c) xs p k = p ∙ ap (λ s. xs ++ s) (sym k)
