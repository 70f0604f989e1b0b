-- How a server ends.
use Rattle.sk_serve.specs.declared.serve_end.ServeEnd.{ServeEnd}
use Rattle.sk_serve.specs.declared.serve_end.ServeEnd.TheVariants as serve_end
use Rattle.sk_serve.specs.declared.serve_end.ServeFault.{ServeFault}
use Rattle.sk_serve.specs.declared.serve_end.ServeFault.TheVariants as fault

-- what a fault of its loops is answered as
abbrev pub end_of : ServeFault → ServeEnd
end_of fault.Failed = serve_end.Failed
end_of fault.Spent = serve_end.Spent
end_of fault.Memory = serve_end.Memory
end_of fault.Unsettled = serve_end.Failed
