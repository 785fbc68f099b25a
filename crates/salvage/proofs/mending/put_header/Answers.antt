use Rattle.std.proofs.Common.{◌≡◌, ◌+◌, ◌≤◌, ◌∙◌, ap, length, arith}
use Rattle.salvage.proofs.MendLemmas.{put_spares, spares_twice}
use Rattle.salvage.proofs.mending.put_header.Goals as goal

pub returns : goal.returns
returns c =
    let old = c.args.front.now in
    let mid = c.put.new.into in
    let new = c.put-2.new.into in
    let four : length c.to_le_bytes.result ≡ 4 = ap length c.to_le_bytes.ensures in
    let eight : length c.to_le_bytes-2.result ≡ 8 = ap length c.to_le_bytes-2.ensures in
    let fits : c.args.start + 4 + length c.to_le_bytes.result ≤ length old = omega (arith, four, c.requires) in
    let fits_still : c.args.start + 8 + length c.to_le_bytes-2.result ≤ length mid = omega (arith, eight, c.requires, c.put.ensures.long) in
    record {
      length = c.put-2.ensures.long ∙ c.put.ensures.long;
      spared = λ p m out.
          spares_twice c.args.start 32 old mid new
          (put_spares c.args.start 32 (c.args.start + 4) c.to_le_bytes.result old mid (omega arith) (omega (arith, four)) fits (c.put.ensures.there fits))
          (put_spares c.args.start 32 (c.args.start + 8) c.to_le_bytes-2.result mid new (omega arith) (omega (arith, eight)) fits_still (c.put-2.ensures.there fits_still))
          p m out;
    }
