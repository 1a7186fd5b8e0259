-- Laws on parts of lists: what a splice leaves at each place, and how splices join.
use Prim.Native.Nat.{ℕ, ◌+◌, ◌-◌, ◌≤◌, ◌<◌}
use mathlib.Core.Path.{◌≡◌, sym, ap, ◌∙◌}
use mathlib.Core.List.{List, ◌++◌, append_assoc}
use native.Mathlib.Nat.{add_assoc, add-sub_of_le}
use native.Mathlib.Numerals.{add-one}
use native.Mathlib.Omega.{arith}
use lib.ListN.{length, get_or, set, take, drop, replicate, length-append, length-take, length-drop, get_or-append, length-replicate}
use lib.Seq.{take-take, take-append-le, drop-append_seam, get_or-append-add, get_or-take, get_or-drop, length-take-le, drop-drop, take-append-add, drop-append-add, take-append_seam, take_at, drop_at, take_all, take-suc, take-suc-set}
use borrow.Rule.Slice.PartMut as P
use Rattle.xdr.specs.Bytes.{splice}

-- ---- a part that is stored over

pub length-splice : (m : List ℕ) (at : ℕ) (bs : List ℕ) → at + length bs ≤ length m → length (splice m at bs) ≡ length m
unfolding splice
length-splice m at bs h = simp (length-append, length-take, length-drop) (omega arith)

pub splice_in : (m : List ℕ) (at : ℕ) (bs : List ℕ) (j : ℕ) → at ≤ length m → j < length bs → get_or (splice m at bs) (at + j) 0 ≡ get_or bs j 0
unfolding splice
splice_in m at bs j h l =
    ap (λ (n : ℕ). get_or (take at m ++ (bs ++ drop (at + length bs) m)) (n + j) 0) (sym (length-take-le at m h))
    ∙ get_or-append-add (take at m) (bs ++ drop (at + length bs) m) j 0
    ∙ get_or-append bs (drop (at + length bs) m) 0 j l

pub splice-below : (m : List ℕ) (at : ℕ) (bs : List ℕ) (j : ℕ) → at ≤ length m → j < at → get_or (splice m at bs) j 0 ≡ get_or m j 0
unfolding splice
splice-below m at bs j h l =
    get_or-append (take at m) (bs ++ drop (at + length bs) m) 0 j (rw (length-take-le at m h) l) ∙ get_or-take at m j 0 l

pub splice-above : (m : List ℕ) (at : ℕ) (bs : List ℕ) (j : ℕ) → at ≤ length m → at + length bs ≤ j → get_or (splice m at bs) j 0 ≡ get_or m j 0
unfolding splice
splice-above m at bs j h l =
    let t : ℕ = j - (at + length bs) in
    let e : j ≡ length (take at m) + (length bs + t) = rw (length-take-le at m h) (omega arith) in
    ap (λ (n : ℕ). get_or (take at m ++ (bs ++ drop (at + length bs) m)) n 0) e
    ∙ get_or-append-add (take at m) (bs ++ drop (at + length bs) m) (length bs + t) 0
    ∙ get_or-append-add bs (drop (at + length bs) m) t 0
    ∙ get_or-drop (at + length bs) m t 0
    ∙ ap (λ (n : ℕ). get_or m n 0) (add-sub_of_le l)

-- what stands before the end of a stored part, and behind it
pub take_spliced : (m : List ℕ) (at : ℕ) (bs : List ℕ) → at ≤ length m → take (at + length bs) (splice m at bs) ≡ take at m ++ bs
unfolding splice
take_spliced m at bs h =
    ap (λ (n : ℕ). take (n + length bs) (splice m at bs)) (sym (length-take-le at m h))
    ∙ take-append-add (take at m) (bs ++ drop (at + length bs) m) (length bs)
    ∙ ap (λ (l : List ℕ). take at m ++ l) (take-append_seam bs (drop (at + length bs) m))

pub drop_spliced : (m : List ℕ) (at : ℕ) (bs : List ℕ) → at ≤ length m → drop (at + length bs) (splice m at bs) ≡ drop (length bs) (drop at m)
unfolding splice
drop_spliced m at bs h =
    ap (λ (n : ℕ). drop (n + length bs) (splice m at bs)) (sym (length-take-le at m h))
    ∙ drop-append-add (take at m) (bs ++ drop (at + length bs) m) (length bs)
    ∙ drop-append_seam bs (drop (at + length bs) m)
    ∙ sym (drop-drop (length bs) at m)

-- a splice over the front of another
pub splice_over : (m : List ℕ) (at : ℕ) (a b c : List ℕ) → at ≤ length m → length b ≡ length a → splice (splice m at (a ++ c)) at b ≡ splice m at (b ++ c)
unfolding splice
splice_over m at a b c h e =
    let t = take at m in
    let r = drop (at + length (a ++ c)) m in
    let k : length t ≡ at = length-take-le at m h in
    let front : take at (t ++ ((a ++ c) ++ r)) ≡ t = take_at t ((a ++ c) ++ r) at k in
    let back : drop (at + length b) (t ++ ((a ++ c) ++ r)) ≡ c ++ r
    = ap (λ (n : ℕ). drop (n + length b) (t ++ ((a ++ c) ++ r))) (sym k)
    ∙ drop-append-add t ((a ++ c) ++ r) (length b)
    ∙ ap (drop (length b)) (append_assoc a c r)
    ∙ drop_at a (c ++ r) (length b) (sym e) in
    let size : length (a ++ c) ≡ length (b ++ c) = omega (arith, length-append a c, length-append b c, e) in
    rw (front, back) (rw size (ap (λ (l : List ℕ). t ++ l) (sym (append_assoc b c (drop (at + length (b ++ c)) m)))))

-- two splices, the second behind the first, are one
pub splice-splice : (m : List ℕ) (at : ℕ) (a b : List ℕ) → at ≤ length m → splice (splice m at a) (at + length a) b ≡ splice m at (a ++ b)
unfolding splice
splice-splice m at a b h =
    let t = take at m in
    let r = drop (at + length a) m in
    let e : length t ≡ at = length-take-le at m h in
    let front : take (at + length a) (t ++ (a ++ r)) ≡ t ++ a
    = ap (λ (n : ℕ). take (n + length a) (t ++ (a ++ r))) (sym e) ∙ take-append-add t (a ++ r) (length a) ∙ ap (λ (l : List ℕ). t ++ l) (take-append_seam a r) in
    let sum : at + length a + length b ≡ at + length (a ++ b) = omega (arith, length-append a b) in
    let back : drop (at + length a + length b) (t ++ (a ++ r)) ≡ drop (at + length (a ++ b)) m
    = ap (λ (n : ℕ). drop (n + length a + length b) (t ++ (a ++ r))) (sym e)
    ∙ ap (λ (n : ℕ). drop n (t ++ (a ++ r))) (add_assoc (length t) (length a) (length b))
    ∙ drop-append-add t (a ++ r) (length a + length b)
    ∙ drop-append-add a r (length b)
    ∙ drop-drop (length b) (at + length a) m
    ∙ ap (λ (n : ℕ). drop n m) sum in
    rw (front, back) (append_assoc t a (b ++ drop (at + length (a ++ b)) m) ∙ ap (λ (l : List ℕ). t ++ l) (sym (append_assoc a b (drop (at + length (a ++ b)) m))))

-- a part written behind another: both are one part, with the length of both, and the place after both is the second one's
pub written_then : (a b x : List ℕ) (at : ℕ) {n m p q : ℕ} {y z : List ℕ} → at ≤ length x
    → y ≡ splice x at a → length a ≡ n → p ≡ at + n → z ≡ splice y p b → length b ≡ m → q ≡ p + m
    → (z ≡ splice x at (a ++ b)) × (length (a ++ b) ≡ n + m) × (q ≡ at + (n + m))
written_then a b x at {n} {m} {p} h f j e g k l =
    let place : p ≡ at + length a = e ∙ ap (λ (i : ℕ). at + i) (sym j) in (
      g ∙ ap (λ (l : List ℕ). splice l p b) f ∙ ap (λ (i : ℕ). splice (splice x at a) i b) place ∙ splice-splice x at a b h,
      omega (arith, length-append a b, j, k),
      omega (arith, e, l),
    )

-- a lent part that comes back is a splice
pub put-splice : (a n : ℕ) (xs ys zs : List ℕ) → ys ≡ zs → length zs ≡ n → P.put_mid a (a + n - a) xs ys ≡ splice xs a zs
unfolding splice
put-splice a n xs ys zs e h = rw (P.Post-is a (a + n) xs (omega arith), e, h)

-- a lent part that comes back zeroed
pub put_zeroed : (a n : ℕ) (xs ys : List ℕ) → a + n ≤ length xs → ys ≡ replicate (length (take (a + n - a) (drop a xs))) 0
    → P.put_mid a (a + n - a) xs ys ≡ splice xs a (replicate n 0)
put_zeroed a n xs ys h e =
    let k : length (take (a + n - a) (drop a xs)) ≡ n = rw (length-take (a + n - a) (drop a xs), length-drop a xs) (omega arith) in
    put-splice a n xs ys (replicate n 0) (e ∙ ap (λ (m : ℕ). replicate m 0) k) (length-replicate n 0)

-- two splices, the second just before the first, are one
pub splice-before : (m : List ℕ) (at b : ℕ) (a c : List ℕ) → at + length a ≡ b → b + length c ≤ length m → splice (splice m b c) at a ≡ splice m at (a ++ c)
unfolding splice
splice-before m at b a c e h =
    let t = take b m in
    let r = drop (b + length c) m in
    let k : length t ≡ b = length-take-le b m (omega arith) in
    let front : take at (t ++ (c ++ r)) ≡ take at m = take-append-le at t (c ++ r) (omega arith) ∙ take-take at b m (omega arith) in
    let back : drop (at + length a) (t ++ (c ++ r)) ≡ c ++ r = ap (λ (n : ℕ). drop n (t ++ (c ++ r))) (e ∙ sym k) ∙ drop-append_seam t (c ++ r) in
    let sum : b + length c ≡ at + length (a ++ c) = omega (arith, length-append a c) in
    rw (front, back, sum) (ap (λ (l : List ℕ). take at m ++ l) (sym (append_assoc a c (drop (at + length (a ++ c)) m))))

-- a part written in front of another: both are one part, with the length of both, and the place after both is the first one's
pub written-before : (a b x : List ℕ) (at : ℕ) {n m p q : ℕ} {y z : List ℕ} → at + n ≡ p → p + m ≤ length x
    → y ≡ splice x p b → length b ≡ m → q ≡ p + m → z ≡ splice y at a → length a ≡ n
    → (z ≡ splice x at (a ++ b)) × (length (a ++ b) ≡ n + m) × (q ≡ at + (n + m))
written-before a b x at {p = p} e h f k l g j = (
  g ∙ ap (λ (l : List ℕ). splice l at a) f ∙ splice-before x at p a b (omega (arith, e, j)) (omega (arith, h, k)),
  omega (arith, length-append a b, j, k),
  omega (arith, e, l),
)

-- ---- a part that is copied element by element

pub copy_more : (dst src : List ℕ) (i : ℕ) → i < length dst → i < length src → take i dst ≡ take i src → take (i + 1) (set dst i (get_or src i 0)) ≡ take (i + 1) src
copy_more dst src i h k e = rw (add-one i, take-suc-set dst i (get_or src i 0) h, take-suc src i 0 k, e)

pub copy-all : (dst src : List ℕ) (i : ℕ) → take i dst ≡ take i src → length dst ≤ i → length src ≤ i → dst ≡ src
copy-all dst src i e h k = sym (take_all i dst h) ∙ e ∙ take_all i src k
