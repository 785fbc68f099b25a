use Rattle.std.proofs.Common.{◌≤◌, length, refl, ap, subst, ◌∙◌, arith}
use Rattle.disk_model.specs.Places.{AreBytes}
use Rattle.archive_replies.specs.Texts.{begin_reply}
use Rattle.stream_names.specs.NameLaws.{is_name}
use Rattle.script_streams.specs.PrintLaws.{prints_as}
use Rattle.inspector_cli.proofs.begin.begin_stream.Goals as goal

pub begin-outcome-requires : goal.begin-outcome-requires
begin-outcome-requires g c =
    let few : length c.as_slice.result.now ≤ 128 = c.as_slice.ensures.fits in
    let same = ap length c.as_slice.ensures.value in record {
      name = is_name c.args.stream.name.items c.args.stream.some (omega (arith, few, same)) (subst AreBytes c.as_slice.ensures.value c.copied-shown.ensures.bytes) c.args.stream.no_nul;
    }

pub returns : goal.returns
returns g c = (
  begin_reply c.args.stream.name.items c.begin-outcome.result,
  (
    c.begin-outcome.result,
    c.begin-outcome.ensures,
    refl,
    c.is_ok-is_begun.ensures.value,
  ),
  prints_as (ap (λ t. begin_reply t c.begin-outcome.result) (c.as_slice-2.ensures.value ∙ (c.copied-shown.ensures.same ∙ c.as_slice.ensures.value))) c.print_begun.ensures,
)
