-- Laws on what a writer did.
use Prim.Native.Nat.{ℕ, ◌+◌, ◌≤◌}
use mathlib.Core.Path.{◌≡◌, refl, sym, ap, ◌∙◌}
use mathlib.Core.List.{List, [], ◌++◌, append_assoc, append-nil}
use native.Mathlib.Nat.{add-zero}
use native.Mathlib.Omega.{arith}
use lib.ListN.{length, take, drop, length-append, take-append-drop}
use lib.Seq.{drop-drop}
use Rattle.xdr.specs.Bytes.{splice}
use Rattle.xdr.specs.Writing.{HasRoom, Wrote, WroteOver}
use Rattle.xdr.specs.declared.writer.Writer.{Writer}
use Rattle.xdr.proofs.BytesLaws.{length-splice, take_spliced, drop_spliced, splice_over}
use Rattle.xdr.proofs.RoundTrip.{Stands, splice-stands}

-- bytes stored at the writer's place
pub stored : {bs : List ℕ} {n : ℕ} {x y : Writer} → length bs ≡ n → HasRoom n x → y.out.now ≡ splice x.out.now x.at bs → y.at ≡ x.at + n
    → y.out.ghost_name ≡ x.out.ghost_name → Wrote bs x y
stored {bs} {n} {x} {y} e h s p l =
    let within : x.at ≤ length x.out.now = omega (arith, h) in
    let room : x.at + length bs ≤ length x.out.now = omega (arith, h, e) in
    let end : y.at ≡ x.at + length bs = omega (arith, p, e) in
    record {
      written = ap (λ (k : ℕ). take k y.out.now) end ∙ ap (take (x.at + length bs)) s ∙ take_spliced x.out.now x.at bs within;
      behind = ap (λ (k : ℕ). drop k y.out.now) end ∙ ap (drop (x.at + length bs)) s ∙ drop_spliced x.out.now x.at bs within;
      place = end;
      size = ap length s ∙ length-splice x.out.now x.at bs room;
      lent = l;
    }

-- nothing
pub wrote_none : (x : Writer) → Wrote [] x x
wrote_none x = record { written = sym (append-nil (take x.at x.out.now)); behind = refl; place = sym (add-zero x.at); size = refl; lent = refl }

-- one after the other
pub wrote_then : {a b : List ℕ} {x y z : Writer} → Wrote a x y → Wrote b y z → Wrote (a ++ b) x z
wrote_then {a} {b} {x} {y} {z} f g = record {
  written = g.written ∙ ap (λ (l : List ℕ). l ++ b) f.written ∙ append_assoc (take x.at x.out.now) a b;
  behind = g.behind ∙ ap (drop (length b)) f.behind ∙ drop-drop (length b) (length a) (drop x.at x.out.now)
      ∙ ap (λ (k : ℕ). drop k (drop x.at x.out.now)) (sym (length-append a b));
  place = omega (arith, f.place, g.place, length-append a b);
  size = g.size ∙ f.size;
  lent = g.lent ∙ f.lent;
}

-- the bytes as a whole
pub wrote_spliced : {bs : List ℕ} {x y : Writer} → Wrote bs x y → y.out.now ≡ splice x.out.now x.at bs
unfolding splice
wrote_spliced {bs} {x} {y} w =
    sym (take-append-drop y.at y.out.now)
    ∙ ap (λ (l : List ℕ). l ++ drop y.at y.out.now) w.written
    ∙ append_assoc (take x.at x.out.now) bs (drop y.at y.out.now)
    ∙ ap (λ (l : List ℕ). take x.at x.out.now ++ (bs ++ l)) (w.behind ∙ drop-drop (length bs) x.at x.out.now)

-- what was written stands at its place
pub wrote_stands : {bs : List ℕ} {x y : Writer} → HasRoom (length bs) x → Wrote bs x y → Stands y.out.now x.at bs
wrote_stands {bs} {x} {y} h w = rw (wrote_spliced w) (splice-stands x.out.now x.at bs h)

-- bytes put over the first of those that were written
pub wrote_over : (a c : List ℕ) {b : List ℕ} {x y z : Writer} → x.at ≤ length x.out.now → length b ≡ length a → Wrote (a ++ c) x y → WroteOver x.at b y z
    → Wrote (b ++ c) x z
wrote_over a c {b} {x} {y} {z} h e f g =
    let same : length (a ++ c) ≡ length (b ++ c) = omega (arith, length-append a c, length-append b c, e) in
    let all : z.out.now ≡ splice x.out.now x.at (b ++ c) = g.bytes ∙ ap (λ (l : List ℕ). splice l x.at b) (wrote_spliced f) ∙ splice_over x.out.now x.at a b c h e in
    let end : z.at ≡ x.at + length (b ++ c) = omega (arith, g.place, f.place, same) in
    record {
      written = ap (λ (k : ℕ). take k z.out.now) end ∙ ap (take (x.at + length (b ++ c))) all ∙ take_spliced x.out.now x.at (b ++ c) h;
      behind = ap (λ (k : ℕ). drop k z.out.now) end ∙ ap (drop (x.at + length (b ++ c))) all ∙ drop_spliced x.out.now x.at (b ++ c) h;
      place = end;
      size = g.size ∙ f.size;
      lent = g.lent ∙ f.lent;
    }
