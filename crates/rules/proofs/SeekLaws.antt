-- SEEK's answer: the place is the first from the offset on that is of the kind asked for, or the size; eof says which. At the size it is the size, and
-- past it NXIO.
use Prim.Native.Nat.{ℕ, suc, ◌*◌, ◌≤◌, ◌<◌}
use mathlib.Core.Path.{◌≡◌, refl, sym, ap, ap₂, ◌∙◌}
use mathlib.Core.Bool.{Bool, true}
use mathlib.Core.Option.{some}
use mathlib.Core.List.{List}
use native.Mathlib.Omega.{arith}
use borrow.Author.Tests.{eqb-true, eq-eqb, lt-ltb, le-ltb}
use lib.Dec.{eqb}
use Rattle.rules.specs.Lists.{first}
use Rattle.rules.specs.Store.{Geometry, Store, size_of, need}
use Rattle.rules.specs.Read.{seek_place}
use Rattle.rules.specs.Operation.{NXIO, UNION_NOTSUPP, SEEK, seek_result, seek_reply}
use Rattle.rules.specs.Run.{State, file_of, read_stateid, errors, config, does, effect, body, Event}
use Rattle.rules.specs.Claim.{Is}
use Rattle.rules.specs.Seek.{Finds, SeekRight}
use Rattle.rules.proofs.GeometryLaws.{Good, block-pos}
use Rattle.rules.proofs.ReadLaws.{reaches_all, seek_first}
use Rattle.rules.proofs.BodyLaws.{any_file}
use Rattle.rules.proofs.OperationLaws.{Ready, Performed, refused, nospc, done}
use Rattle.rules.proofs.ChainLaws.{Step, as-op}

-- ---- the place

module _ (g : Geometry) (pos : 0 < g.B) (st : Store) (f : ℕ) (fits : size_of st f ≤ g.S * g.B) (hole : Bool) (off : ℕ) (l : off ≤ size_of st f) where
  pub seek_finds : Finds g st f off hole (eqb (seek_place g st f hole off) (size_of st f)) (seek_place g st f hole off)
  seek_finds =
      let r = seek_first g pos st f hole (suc g.S) off (reaches_all g.B g.S (size_of st f) off fits) in
      let p : ℕ = seek_place g st f hole off in
      record {
        from = omega (arith, r.from);
        to = r.to;
        between = r.before;
        found = r.here;
        at_end = (eqb-true p (size_of st f), eq-eqb p (size_of st f));
      }

-- ---- what it does

-- it changes nothing
seek_effect : (g : Geometry) (x : State) (id : List ℕ) (off what : ℕ) → effect g x (SEEK id off what) ≡ x
unfolding effect does
seek_effect g x id off what = refl

-- with file f current, and a stateid that passes
module _ (g : Geometry) (x : State) (f : ℕ) (current : x.current ≡ some f) (id : List ℕ) (passes : read_stateid id ≡ true) (off what : ℕ) where
  seek_neither : 1 < what → first (errors g x (SEEK id off what)) ≡ UNION_NOTSUPP
  unfolding errors
  seek_neither h = rw (current, passes, lt-ltb 1 what h)

  pub seek_passes : what ≤ 1 → off ≤ size_of x.store f → first (errors g x (SEEK id off what)) ≡ 0
  unfolding errors
  seek_passes h l = rw (current, passes, le-ltb 1 what h, le-ltb (size_of x.store f) off l)

  seek_past : what ≤ 1 → size_of x.store f < off → first (errors g x (SEEK id off what)) ≡ NXIO
  unfolding errors
  seek_past h l = rw (current, passes, le-ltb 1 what h, lt-ltb (size_of x.store f) off l)

  pub seek_body : (v : List ℕ) → body g v x (SEEK id off what) ≡ seek_reply g x.store f off what
  unfolding body does
  seek_body v = ap (λ u. seek_reply g x.store (file_of u) off what) current

  -- ---- in a sound store

  module _ (bd : Good g) (r : Ready g x) where
    place : ℕ
    place = seek_place g x.store f (eqb what 1) off

    finds : off ≤ size_of x.store f → Finds g x.store f off (eqb what 1) (eqb place (size_of x.store f)) place
    unfolding place
    finds l = seek_finds g (block-pos bd) x.store f (any_file g x.store r.sound f) (eqb what 1) off l

    shown : (v : List ℕ) → body g v x (SEEK id off what) ≡ seek_result.write (eqb place (size_of x.store f), place)
    unfolding place seek_reply
    shown v = seek_body v

    shown-end : (v : List ℕ) → off ≡ size_of x.store f → body g v x (SEEK id off what) ≡ seek_result.write (true, off)
    shown-end v e =
        let w = finds (omega (arith, e)) in
        let same : place ≡ off = omega (arith, e, w.from, w.to) in
        shown v ∙ ap₂ (λ b p. seek_result.write (b, p)) (w.at_end.1 (same ∙ e)) same

    performed_seek : {v : List ℕ} {next : ℕ} {z : Event} → Performed (config g v) x (SEEK id off what) next z → SeekRight g f off what z
    performed_seek (refused e h) = record {
      neither = λ w. sym h ∙ seek_neither w;
      past = λ w l. sym h ∙ seek_past w l;
      finds = λ w l. absurd (omega (arith, h, seek_passes w l));
      at_size = λ w l. absurd (omega (arith, h, seek_passes w (omega (arith, l))));
      keeps = refl;
    }
    performed_seek (nospc h l) = absurd (omega (arith, l, r.sound.room, ap (λ y. need y.store.words) (seek_effect g x id off what)))
    performed_seek {v} (done h l) = record {
      neither = λ w. absurd (omega (arith, h, seek_neither w));
      past = λ w l. absurd (omega (arith, h, seek_past w l));
      finds = λ w l. (refl, _, _, shown v, finds l);
      at_size = λ w e. (refl, shown-end v e);
      keeps = seek_effect g x id off what;
    }

-- ---- a SEEK reached

pub step_seek : (g : Geometry) → Good g → (id : List ℕ) → read_stateid id ≡ true → (off what f : ℕ) → {z : Event} → Step g z → Is z (SEEK id off what) f → SeekRight g f off what z
step_seek g bd id passes off what f {z} s w = let a = as-op g bd s w.0.1 in performed_seek g z.before f w.1 id passes off what bd a.ready a.how
