-- The exported calls' numbers: what is told of a request and of a reply.
use Rattle.std.specs.Prelude.{ℕ, ◌≡◌, Bool, cond, List, [], ◌∷◌, replicate, Option, Some, None, Result, Ok, Err}
use Rattle.std.proofs.Math.Option as maybe
use Rattle.xdr.specs.Reading.{parsed}
use Rattle.rules.specs.Operation.{Op}
use Rattle.rules.specs.Client.{wrote, piece_layout, opened, step}
use Rattle.client.specs.declared.reply.Body.{Body}
use Rattle.client.specs.declared.reply.OpResult.{OpResult}
use Rattle.client.specs.declared.reply.Fault.{Fault}
use Rattle.client.specs.declared.reply.Piece.{Piece}
use Rattle.client.specs.Read.{of_piece, of_step}

-- ---- a request that is written

pub record RequestPromise (tag : List ℕ) (ops : maybe.Option (List Op)) (before : List ℕ) (number : ℕ) (told after : List ℕ) : Type 0 where
  pub number_is : number ≡ (wrote tag ops before).number
  pub told_is : told ≡ (wrote tag ops before).written ∷ []
  pub buffer_is : after ≡ (wrote tag ops before).buffer

-- ---- a reply that is opened

pub record OpenedPromise (tag ns s : List ℕ) (number : ℕ) (told : List ℕ) : Type 0 where
  pub number_is : number ≡ (opened tag ns s).number
  pub told_is : told ≡ (opened tag ns s).status ∷ (opened tag ns s).first ∷ []

-- ---- a result

-- a boolean is 0 or 1
abbrev pub bit : Bool → ℕ
bit b = cond b 1 0

abbrev pub body_numbers : Body → List ℕ
body_numbers Body.Empty = 0 ∷ 0 ∷ 0 ∷ 0 ∷ 0 ∷ 0 ∷ 0 ∷ []
body_numbers (Body.Attrs a) = a.bitmap.start ∷ a.bitmap.len ∷ a.values.start ∷ a.values.len ∷ 0 ∷ 0 ∷ 0 ∷ []
body_numbers (Body.Handle d) = d.start ∷ d.len ∷ 0 ∷ 0 ∷ 0 ∷ 0 ∷ 0 ∷ []
body_numbers (Body.FileData a) = bit a.eof ∷ a.«data».start ∷ a.«data».len ∷ 0 ∷ 0 ∷ 0 ∷ 0 ∷ []
body_numbers (Body.Written a) = a.count ∷ a.committed ∷ a.verifier.start ∷ a.verifier.len ∷ 0 ∷ 0 ∷ 0 ∷ []
body_numbers (Body.Copied a) = a.count ∷ a.committed ∷ a.verifier.start ∷ a.verifier.len ∷ bit a.consecutive ∷ bit a.synchronous ∷ 0 ∷ []
body_numbers (Body.Pieces a) = bit a.eof ∷ a.count ∷ a.first ∷ 0 ∷ 0 ∷ 0 ∷ 0 ∷ []
body_numbers (Body.Sought a) = bit a.eof ∷ a.offset ∷ 0 ∷ 0 ∷ 0 ∷ 0 ∷ 0 ∷ []

-- 0, and number, status, the next place and the body's; 1 behind the last; 10 where there is none
abbrev pub step_number : Result (Option OpResult) Fault → ℕ
step_number (Ok (Some r)) = 0
step_number (Ok None) = 1
step_number (Err e) = 10

abbrev pub step_numbers : Result (Option OpResult) Fault → ℕ → List ℕ
step_numbers (Ok (Some r)) next = r.number ∷ r.status ∷ next ∷ body_numbers r.body
step_numbers (Ok None) next = replicate 10 0
step_numbers (Err e) next = replicate 10 0

-- what is told is what a step says that stands for the rules'
pub record StepPromise (s : List ℕ) (at number : ℕ) (told : List ℕ) : Type 0 where
  pub as_read : Result (Option OpResult) Fault
  pub next : ℕ
  pub step_is : of_step s as_read next ≡ step s at
  pub number_is : number ≡ step_number as_read
  pub told_is : told ≡ step_numbers as_read next

-- ---- a piece

abbrev pub piece_number : Option Piece → ℕ
piece_number (Some p) = 0
piece_number None = 10

abbrev pub piece_numbers : Option Piece → ℕ → List ℕ
piece_numbers (Some (Piece.Data p)) next = 0 ∷ p.offset ∷ p.«data».len ∷ p.«data».start ∷ next ∷ []
piece_numbers (Some (Piece.Hole p)) next = 1 ∷ p.offset ∷ p.length ∷ 0 ∷ next ∷ []
piece_numbers None next = replicate 5 0

pub record PiecePromise (s : List ℕ) (at number : ℕ) (told : List ℕ) : Type 0 where
  pub as_read : Option Piece
  pub next : ℕ
  pub piece_is : parsed (of_piece s) as_read next ≡ piece_layout.read s at
  pub number_is : number ≡ piece_number as_read
  pub told_is : told ≡ piece_numbers as_read next
