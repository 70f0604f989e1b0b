-- A worker may go to another thread with the jobs that it holds.
use denote.Param.Send.{IsSend, sendable}
use Rattle.std.proofs.Crossing.{crosses}
use Rattle.sk_payload.specs.contracts.payload.Payload as Payload
use Rattle.sk_payload.proofs.payload.Payload.TheSendSync.{the_send}
use Rattle.sk_policy.specs.contracts.order.QueueOrder as QueueOrder
use Rattle.sk_launcher.specs.contracts.tally.Tally as Tally

pub payload_send : IsSend Payload.the_field.row
payload_send = search (sendable, crosses, the_send) depth 30 fits 3000

pub order_send : IsSend QueueOrder.the_field.row
order_send = search (sendable, crosses) depth 30 fits 3000

pub tally_send : IsSend Tally.the_field.row
tally_send = search (sendable, crosses) depth 30 fits 3000
