-- Laws of cutting a list into pieces of one size and of putting them together. Assumes nothing.
use Rattle.std.proofs.Common.{◌≡◌, ℕ, zero, suc, ◌+◌, ◌*◌, ◌<◌, ◌≤◌, List, [], ◌∷◌, ◌++◌, length, get_or, take, drop, sym, refl, ap, ◌∙◌, ap₂, append_assoc, suc-mul, zero-mul, arith, length-append, length-drop}
use Rattle.std.specs.List.{AllByRecursion as All}
use Rattle.std.proofs.ByRecursion.{All-take, All-drop}
use Rattle.std.proofs.lemmas.List.{append-nil, take_at, drop_at, drop-drop, length-take-le, take-append-drop}
use Rattle.theory.specs.Memory.{part}
use Rattle.store_theory.specs.Layout.{pieces, together}

-- all of one length
abbrev pub Long : ℕ → List (List ℕ) → Type 0
Long size xss = All (λ xs. length xs ≡ size) xss

pub length_pieces : (size count : ℕ) (xs : List ℕ) → length (pieces size count xs) ≡ count
length_pieces size zero xs = refl
length_pieces size (suc count) xs = ap suc (length_pieces size count (drop size xs))

-- piece i begins at place i times the size
pub get_or_pieces : (size count : ℕ) (xs : List ℕ) (i : ℕ) → i < count → get_or (pieces size count xs) i [] ≡ part xs (i * size) size
get_or_pieces size zero xs i h = absurd (omega arith)
get_or_pieces size (suc count) xs zero h = ap (λ (a : ℕ). take size (drop a xs)) (sym (zero-mul size))
get_or_pieces size (suc count) xs (suc i) h =
    let place : size + i * size ≡ suc i * size = omega (arith, suc-mul i size) in
    get_or_pieces size count (drop size xs) i (omega arith)
    ∙ ap (take size) (drop-drop (i * size) size xs) ∙ ap (λ (a : ℕ). take size (drop a xs)) place

pub pieces_long : (size count : ℕ) (xs : List ℕ) → count * size ≤ length xs → Long size (pieces size count xs)
pieces_long size zero xs h = tt
pieces_long size (suc count) xs h =
    let room : size + count * size ≤ length xs = omega (arith, suc-mul count size) in
    (length-take-le size xs (omega arith), pieces_long size count (drop size xs) (simp length-drop (omega arith)))

pub all_pieces : (P : ℕ → Type 0) (size count : ℕ) (xs : List ℕ) → All P xs → All (All P) (pieces size count xs)
all_pieces P size zero xs h = tt
all_pieces P size (suc count) xs h = (All-take P size xs h, all_pieces P size count (drop size xs) (All-drop P size xs h))

pub length_together : (size : ℕ) (xss : List (List ℕ)) → Long size xss → length (together xss) ≡ length xss * size
length_together size [] h = sym (zero-mul size)
length_together size (xs ∷ xss) h =
    omega (arith, length-append xs (together xss), length_together size xss h.1, h.0, suc-mul (length xss) size)

-- pieces that were put together are cut out again
pub pieces_together : (size : ℕ) (xss : List (List ℕ)) (rest : List ℕ) → Long size xss → pieces size (length xss) (together xss ++ rest) ≡ xss
pieces_together size [] rest h = refl
pieces_together size (xs ∷ xss) rest h =
    let shape = append_assoc xs (together xss) rest in
    let front : take size ((xs ++ together xss) ++ rest) ≡ xs = ap (take size) shape ∙ take_at xs (together xss ++ rest) size h.0 in
    let back : drop size ((xs ++ together xss) ++ rest) ≡ together xss ++ rest = ap (drop size) shape ∙ drop_at xs (together xss ++ rest) size h.0 in
    ap₂ (λ (a : List ℕ) (more : List (List ℕ)). a ∷ more) front (ap (pieces size (length xss)) back ∙ pieces_together size xss rest h.1)

-- a list that was cut up whole is there again
pub together_pieces : (size count : ℕ) (xs : List ℕ) → length xs ≡ count * size → together (pieces size count xs) ≡ xs
together_pieces size zero [] h = refl
together_pieces size zero (x ∷ xs) h = absurd (omega (arith, zero-mul size))
together_pieces size (suc count) xs h =
    let room : size + count * size ≡ length xs = omega (arith, suc-mul count size) in
    ap (λ (ys : List ℕ). take size xs ++ ys) (together_pieces size count (drop size xs) (simp length-drop (omega arith))) ∙ take-append-drop size xs

-- piece i of pieces put together
pub part_together : (size : ℕ) (xss : List (List ℕ)) (i : ℕ) → Long size xss → i < length xss → part (together xss) (i * size) size ≡ get_or xss i []
part_together size xss i h l =
    sym (get_or_pieces size (length xss) (together xss) i l) ∙ ap (λ (yss : List (List ℕ)). get_or yss i []) whole
  where
    none : together xss ++ [] ≡ together xss
    none = append-nil (together xss)

    whole : pieces size (length xss) (together xss) ≡ xss
    whole = ap (pieces size (length xss)) (sym none) ∙ pieces_together size xss [] h
