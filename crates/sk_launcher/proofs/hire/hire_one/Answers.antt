use Rattle.std.proofs.Common.{ap}
use Rattle.sk_launcher.specs.Teams.{teams_of}
use Rattle.sk_launcher.proofs.Hiring.{hires_by}
use Rattle.sk_launcher.proofs.hire.hire_one.Goals as goal

pub returns-clause-hired : goal.returns-clause-hired
returns-clause-hired g c =
    let post = c.in_ok-post.ensures in
    hires_by _ _ _ _ _ _ _ _ _ _ _ _ _ post.given (ap (teams_of (λ v. (goal.Job-dyn g v).runs v.1)) c.in-Some.ensures.items) c.in-Some-pop_front.ensures.items c.in-Some-pop_front-2.ensures.items
    post.post.0 post.post.1 c.start.ensures
