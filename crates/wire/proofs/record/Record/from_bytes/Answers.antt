use Rattle.std.proofs.Common.{◌≡◌, ℕ, ◌/◌, ◌<◌, List, [], length, get_or, ap, ◌∙◌, sym, arith, length-take-le}
use Rattle.std.specs.Int.{w64, from_be_bytes}
use Rattle.std.specs.Simd.{first_chunks}
use Rattle.std.proofs.lemmas.Grind.{common_steps}
use Rattle.std.proofs.lemmas.List.{get_or-take}
use Rattle.wire.specs.Records.{headed}
use Rattle.wire.proofs.Weights.{zeros_after, chunked}
use Rattle.wire.proofs.record.Record.from_bytes.Goals as goal

pub returns : goal.returns
returns c =
    let bs = c.args.bytes.now in
    let h = get_or c.as_chunks.result.0.now 0 [] in
    let long : length bs ≡ 32 = grind (arith, common_steps) in
    let small : (i : ℕ) → get_or bs i 0 < 256 = λ i. omega (arith, c.type_inv.bytes i) in
    let chunk : (i : ℕ) → get_or c.as_chunks.result.0.now i [] ≡ get_or (first_chunks 8 4 bs) i [] =
    λ i. ap (λ (cs : List (List ℕ)). get_or cs i []) (c.as_chunks.ensures.front ∙ ap (λ (n : ℕ). first_chunks 8 (n / 8) bs) long) in
    let head : h ≡ headed (get_or h 0 0) =
    zeros_after h (ap length (chunk 0) ∙ length-take-le 8 bs (omega arith)) (omega arith) (omega arith) (omega arith) (omega arith) (omega arith) (omega arith) (omega arith) in
    let code : get_or h 0 0 ≡ get_or bs 0 0 = ap (λ (l : List ℕ). get_or l 0 0) (chunk 0) ∙ get_or-take 8 bs 0 0 (omega arith) in (
      chunked bs (get_or h 0 0) c.from_be_bytes.result c.from_be_bytes-2.result c.from_be_bytes-3.result long small (sym (chunk 0) ∙ head)
          (c.from_be_bytes.ensures ∙ ap (from_be_bytes w64) (chunk 1)) (c.from_be_bytes-2.ensures ∙ ap (from_be_bytes w64) (chunk 2)) (c.from_be_bytes-3.ensures ∙ ap (from_be_bytes w64) (chunk 3)),
      record { code = omega (arith, code, small 0); first = omega (arith, c.from_be_bytes.type_inv); second = omega (arith, c.from_be_bytes-2.type_inv); note = omega (arith, c.from_be_bytes-3.type_inv) },
    )
