use Rattle.sk_payload.proofs.UsualSpans.{has_usual_spans}
use Rattle.sk_payload.proofs.spans.usual_spans.Goals as goal

pub returns : goal.returns
returns c = has_usual_spans c.args.text.now c.in_ok-slots.slots.found c.in_ok-sketch.sketch c.spans_in.result c.in_ok-slots.ensures c.in-Ok.ensures.cases.1 c.in_ok-sketch.ensures c.spans_in.ensures
