-- READ, READ_PLUS and GETATTR: room for their bodies, and the products of GETATTR.
use Prim.Native.Nat.{ℕ, ◌+◌, ◌*◌, ◌≤◌, ◌<◌}
use mathlib.Core.Path.{◌≡◌}
use mathlib.Core.List.{List, append-nil}
use Rattle.xdr.specs.Encode.{u32, opaque}
use native.Mathlib.Nat.{mul-le-mul}
use native.Mathlib.Omega.{arith}
use lib.ListN.{length, length-append}
use Rattle.xdr.proofs.EncodeLaws.{length-u32, length-bool}
use Rattle.rules.specs.Store.{Geometry, Store, bytes_from}
use Rattle.rules.specs.Read.{read_pieces}
use Rattle.rules.specs.Operation.{read_plus_reply}
use Rattle.rules.proofs.GeometryLaws.{Good, block-pos}
use Rattle.rules.proofs.SoundStore.{Sound}
use Rattle.rules.proofs.BodyLaws.{read-plus-most}
use Rattle.tables.specs.Space.{SpaceKnown, SpaceIs}
use Rattle.tables.proofs.SpaceLaws.{used-most, freed_most}
use Rattle.compound.specs.Pieces.{pieces_size}
use Rattle.compound.proofs.PieceLaws.{length-pieces}

pub pieces_room : (g : Geometry) → Good g → (st : Store) → Sound g st → (f : ℕ) → f < g.F → (off n : ℕ) → 8 + pieces_size (read_pieces g st f off n) ≤ 2171
unfolding read_plus_reply
pieces_room g d st s f h off n =
    let most = read-plus-most g (block-pos d) st f d.block (s.fits f h) off n in
    omega (arith, simp (length-append, length-bool, length-u32) at most, length-pieces g st f (read_pieces g st f off n))

-- products that the code computes
block_product : (g : Geometry) → Good g → {n : ℕ} → n ≤ g.N + g.S → g.B * n ≤ 272629760
block_product g d {n} h = let most : n ≤ 66560 = omega (arith, h, d.blocks_most, d.slots_most) in mul-le-mul d.block_most most

module _ {g : Geometry} {ws counts after : List ℕ} {f used freed : ℕ} (d : Good g) (k : SpaceKnown g ws counts f) (b : length counts ≡ g.N) (r : SpaceIs g ws f used freed counts after) where
  pub used-small : g.B * used ≤ 272629760
  used-small = block_product g d (omega (arith, r.used_is, used-most k, b))

  pub freed_small : g.B * freed ≤ 272629760
  freed_small = block_product g d (omega (arith, r.freed_is, freed_most k, b))

-- no bytes, as opaque data
pub no_bytes : (g : Geometry) (st : Store) (f off : ℕ) {n : ℕ} → n ≡ 0 → opaque (bytes_from g st f off n) ≡ u32 0
unfolding opaque
no_bytes g st f off e = rw e (append-nil (u32 0))
