-- Which source places match a slot of a COPY: they lie in the slots of the first and the last of them.
use Prim.Native.Nat.{ℕ, suc, ◌+◌, ◌-◌, ◌*◌, ◌/◌, ◌≤◌, ◌<◌, min, max}
use mathlib.Core.Path.{◌≡◌, refl, sym, ap, ◌∙◌}
use mathlib.Core.Bool.{Bool, true, false, true≢false}
use mathlib.Core.List.{List}
use native.Mathlib.Nat.{le_refl}
use native.Mathlib.Decide.{ℕ_discrete}
use native.Mathlib.Omega.{arith}
use Rattle.rules.specs.Store.{Geometry, Store, is_hole, size_of}
use Rattle.rules.specs.Edit.{cleared, owns, covers, from_holes, clears, kind_of}
use Rattle.rules.specs.Read.{is_hole_at}
use Rattle.rules.proofs.GeometryLaws.{Good, good, block-pos}
use Rattle.rules.proofs.SoundStore.{div_le, div_ge, div_lt, slot_bytes_lem}
use Rattle.rules.proofs.WriteLaws.{covered-is}
use Rattle.rules.proofs.CopyLaws.{from_all, from_one}
use Rattle.xdr.proofs.BoolLaws.{and_false}
use Rattle.store.specs.declared.edit.Source.{Source}
use Rattle.store.specs.declared.edit.Edit as CodeEdit
use Rattle.store.specs.Readable.{hole_in}
use Rattle.store.specs.Planner.{Others, CopySlot, copy_from, MatchedIs, CopyKindIs}

module _ {g : Geometry} {e : CodeEdit.Edit} {s : Source} {ws : List ℕ} {k : ℕ} (h : CopySlot g e s ws k) where
  pub copy-good : Good g
  copy-good = good g h.slot.edit.geometry

  pos : 0 < g.B
  pos = block-pos copy-good

  -- the slot has a byte in the region
  pub copy_touches : (e.off < k * g.B + g.B) × (k * g.B < e.end)
  copy_touches = slot_bytes_lem g pos e.off e.end h.slot.edit.some h.slot.edit.fits k h.slot.from h.slot.to

  -- and in a store where the other files have these words
  hole-seen : (st : Store) → Others g e.file ws st.words → (i : ℕ) → i < s.off + (e.end - e.off) → is_hole_at g st s.file i ≡ hole_in g ws s.file i
  hole-seen st o i l = ap is_hole (o.same s.file (i / g.B) h.source.other (div_lt pos i g.S (omega (arith, h.source.fits))))

  module _ (starts : e.off ≤ k * g.B) where
    -- the matches of its first and its last place in the region
    abbrev head : ℕ
    head = s.off + (k * g.B - e.off)

    abbrev last : ℕ
    last = head + (min e.end (k * g.B + g.B) - k * g.B - 1)

    pub head-below : head < s.off + (e.end - e.off)
    head-below = omega (arith, copy_touches, h.slot.edit.some)

    pub last-below : last < s.off + (e.end - e.off)
    last-below = omega (arith, copy_touches, h.slot.edit.some)

    -- the last place itself
    abbrev final : ℕ
    final = min e.end (k * g.B + g.B) - 1

    record LastPlace : Type 0 where
      from : e.off ≤ final
      to : final < e.end
      after : k * g.B ≤ final
      before : final < k * g.B + g.B
      match : s.off + (final - e.off) ≡ last

    last_place_lem : LastPlace
    last_place_lem =
        let t = copy_touches in
        let m : (k * g.B < min e.end (k * g.B + g.B)) × ((min e.end (k * g.B + g.B) ≤ e.end) × (min e.end (k * g.B + g.B) ≤ k * g.B + g.B)) = omega (arith, t, pos) in
        record { from = omega (arith, m, starts); to = omega (arith, m); after = omega (arith, m); before = omega (arith, m); match = omega (arith, m, starts) }

    -- a match lies in the slot of one of the two
    between : (i : ℕ) → head ≤ i → i ≤ last → hole_in g ws s.file head ≡ true → hole_in g ws s.file last ≡ true → hole_in g ws s.file i ≡ true
    between i l u a b = go (ℕ_discrete (i / g.B) (head / g.B))
      where
        go : Dec (i / g.B ≡ head / g.B) → hole_in g ws s.file i ≡ true
        go (yes z) = rw z a
        go (no d) =
            let up : head / g.B ≤ i / g.B = div_le pos head (i / g.B) (omega (arith, div_ge pos i (i / g.B) (le_refl _))) in
            let to : i / g.B ≤ last / g.B = div_le pos i (last / g.B) (omega (arith, div_ge pos last (last / g.B) (le_refl _))) in
            let near : last / g.B ≤ suc (head / g.B) = div_le pos last (suc (head / g.B)) (omega (arith, div_ge pos head (head / g.B) (le_refl _), copy_touches)) in
            let z : i / g.B ≡ last / g.B = omega (arith, d) in
            rw z b

    pub matched-no : hole_in g ws s.file head ≡ false → MatchedIs g e s ws k false
    matched-no n st o = go (from_holes g st (copy_from e s) s.file s.off k) refl
      where
        go : (t : Bool) → from_holes g st (copy_from e s) s.file s.off k ≡ t → false ≡ t
        go false z = refl
        go true z =
            absurd (true≢false (sym (from_one g st (copy_from e s) s.file s.off k z (k * g.B) starts copy_touches.1 (le_refl _) (omega (arith, pos)))
            ∙ hole-seen st o head head-below ∙ n))

    pub matched-last : hole_in g ws s.file head ≡ true → MatchedIs g e s ws k (hole_in g ws s.file last)
    matched-last a st o = go (hole_in g ws s.file last) refl
      where
        all : hole_in g ws s.file last ≡ true → from_holes g st (copy_from e s) s.file s.off k ≡ true
        all b =
            from_all g st (copy_from e s) s.file s.off k (λ p l u m n.
            hole-seen st o (s.off + (p - e.off)) (omega arith) ∙ between (s.off + (p - e.off)) (omega arith) (omega arith) a b)

        go : (t : Bool) → hole_in g ws s.file last ≡ t → t ≡ from_holes g st (copy_from e s) s.file s.off k
        go true b = sym (all b)
        go false b = pick (from_holes g st (copy_from e s) s.file s.off k) refl
          where
            pick : (t : Bool) → from_holes g st (copy_from e s) s.file s.off k ≡ t → false ≡ t
            pick false z = refl
            pick true z =
                let l = last_place_lem in
                absurd (true≢false (sym (from_one g st (copy_from e s) s.file s.off k z final l.from l.to l.after l.before)
                ∙ rw l.match (hole-seen st o last last-below) ∙ b))

  -- ---- the slot's kind

  -- what `from_holes` asks
  pub copy-starts : (size : ℕ) → covers g size e.off e.end k ≡ true → e.off ≤ k * g.B
  copy-starts size c = (covered-is g size e.off e.end k c).starts

  module _ {size : ℕ} where
    pub copy_uncovered : covers g (max size e.end) e.off e.end k ≡ false → CopyKindIs g e s size ws k owns
    unfolding kind_of clears
    copy_uncovered c = record { is = λ st z o. rw (z, c); inside = tt }

    pub copy_data : (r : Bool) → r ≡ false → MatchedIs g e s ws k r → CopyKindIs g e s size ws k owns
    unfolding kind_of clears
    copy_data r n m = record { is = λ st z o. rw (sym (m st o) ∙ n, and_false (covers g (max (size_of st e.file) e.end) e.off e.end k)); inside = tt }

    pub copy-cleared : covers g (max size e.end) e.off e.end k ≡ true → (r : Bool) → r ≡ true → MatchedIs g e s ws k r → CopyKindIs g e s size ws k cleared
    unfolding kind_of clears
    copy-cleared c r y m = record { is = λ st z o. rw (z, c, sym (m st o) ∙ y); inside = tt }
