-- What a turn counts.
use Rattle.std.specs.Prelude.{◌+◌}
use Rattle.sk_link.specs.declared.report.Report.{Report}
use Rattle.sk_poller.specs.declared.report.PollReport.{PollReport}

abbrev pub nothing : PollReport
nothing = record { promoted = 0; rescued = 0; buried = 0; pushed = 0 }

-- due jobs that went to their queues
abbrev pub add_due : PollReport → Report → PollReport
add_due n report = record n { promoted = n.promoted + report.moved; buried = n.buried + report.buried }

-- jobs of dead processes that went back to their queues
abbrev pub add_rescued : PollReport → Report → PollReport
add_rescued n report = record n { rescued = n.rescued + report.moved; buried = n.buried + report.buried }

-- one periodic job
abbrev pub add_pushed : PollReport → PollReport
add_pushed n = record n { pushed = n.pushed + 1 }
