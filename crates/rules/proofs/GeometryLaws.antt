-- The numbers of a geometry inside the limits, and the lengths of its tables.
use Prim.Native.Nat.{ℕ, ◌*◌, ◌^◌, ◌≤◌, ◌<◌}
use mathlib.Core.Path.{◌≡◌}
use mathlib.Core.Bool.{Bool, true, ◌&&◌, ◌||◌}
use mathlib.Core.Logic.{◌⊎◌, inl, inr}
use native.Mathlib.Nat.{mul-le-mul}
use native.Mathlib.Omega.{arith}
use borrow.Author.Tests.{ltb-true, leb-true, eqb-true}
use lib.ListN.{length}
use lib.Dec.{leb, ltb, eqb}
use Rattle.rules.specs.Store.{Geometry, good_block_size, good_geometry, Store, good_lengths}
use Rattle.xdr.proofs.BoolLaws.{and_left, and_right, or_cases}

pub record Good (g : Geometry) : Type 0 where
  pub files : 1 ≤ g.F
  pub files_most : g.F ≤ 64
  pub slots : 1 ≤ g.S
  pub slots_most : g.S ≤ 1024
  pub blocks : 1 ≤ g.N
  pub blocks_most : g.N ≤ 65536
  pub block : 512 ≤ g.B
  pub block_most : g.B ≤ 4096

block-between : (b : ℕ) → good_block_size b ≡ true → (512 ≤ b) × (b ≤ 4096)
unfolding good_block_size
block-between b h = last (or_cases (eqb b 512 || eqb b 1024 || eqb b 2048) (eqb b 4096) h)
  where
    first : (eqb b 512 ≡ true) ⊎ (eqb b 1024 ≡ true) → (512 ≤ b) × (b ≤ 4096)
    first (inl e) = omega (arith, eqb-true b 512 e)
    first (inr e) = omega (arith, eqb-true b 1024 e)

    second : (eqb b 512 || eqb b 1024 ≡ true) ⊎ (eqb b 2048 ≡ true) → (512 ≤ b) × (b ≤ 4096)
    second (inl e) = first (or_cases (eqb b 512) (eqb b 1024) e)
    second (inr e) = omega (arith, eqb-true b 2048 e)

    last : (eqb b 512 || eqb b 1024 || eqb b 2048 ≡ true) ⊎ (eqb b 4096 ≡ true) → (512 ≤ b) × (b ≤ 4096)
    last (inl e) = second (or_cases (eqb b 512 || eqb b 1024) (eqb b 2048) e)
    last (inr e) = omega (arith, eqb-true b 4096 e)

pub good : (g : Geometry) → good_geometry g ≡ true → Good g
unfolding good_geometry
good g h =
    let a : Bool = ltb 0 g.F && leb g.F 64 in
    let b : Bool = ltb 0 g.S && leb g.S 1024 in
    let c : Bool = ltb 0 g.N && leb g.N 65536 in
    let t : Bool = good_block_size g.B in
    let hc = and_left (a && b && c) t h in
    let hb = and_left (a && b) c hc in
    let ha = and_left a b hb in
    let size = block-between g.B (and_right (a && b && c) t h) in
    record {
      files = ltb-true 0 g.F (and_left (ltb 0 g.F) (leb g.F 64) ha);
      files_most = leb-true g.F 64 (and_right (ltb 0 g.F) (leb g.F 64) ha);
      slots = ltb-true 0 g.S (and_left (ltb 0 g.S) (leb g.S 1024) (and_right a b hb));
      slots_most = leb-true g.S 1024 (and_right (ltb 0 g.S) (leb g.S 1024) (and_right a b hb));
      blocks = ltb-true 0 g.N (and_left (ltb 0 g.N) (leb g.N 65536) (and_right (a && b) c hc));
      blocks_most = leb-true g.N 65536 (and_right (ltb 0 g.N) (leb g.N 65536) (and_right (a && b) c hc));
      block = size.0;
      block_most = size.1;
    }

pub block-pos : {g : Geometry} → Good g → 0 < g.B
block-pos h = omega (arith, h.block)

-- products that the code computes
pub slots-all : (g : Geometry) → Good g → g.F * g.S ≤ 65536
slots-all g h = mul-le-mul h.files_most h.slots_most

pub file-most : (g : Geometry) → Good g → g.S * g.B ≤ 4194304
file-most g h = mul-le-mul h.slots_most h.block_most

pub memory_most : (g : Geometry) → Good g → g.N * g.B ≤ 268435456
memory_most g h = mul-le-mul h.blocks_most h.block_most

pub file-small : {g : Geometry} → Good g → g.S * g.B < 2 ^ 64
file-small {g} h = omega (arith, file-most g h)

pub record Lengths (g : Geometry) (st : Store) : Type 0 where
  pub files : length st.sizes ≡ g.F
  pub slots : length st.words ≡ g.F * g.S
  pub bytes : length st.mem ≡ g.N * g.B

pub lengths : (g : Geometry) (st : Store) → good_lengths g st ≡ true → Lengths g st
unfolding good_lengths
lengths g st h =
    let a : Bool = eqb (length st.sizes) g.F in
    let b : Bool = eqb (length st.words) (g.F * g.S) in
    let c : Bool = eqb (length st.mem) (g.N * g.B) in
    record {
      files = eqb-true _ _ (and_left a b (and_left (a && b) c h));
      slots = eqb-true _ _ (and_right a b (and_left (a && b) c h));
      bytes = eqb-true _ _ (and_right (a && b) c h);
    }
