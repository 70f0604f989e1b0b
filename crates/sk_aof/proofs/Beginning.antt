-- What a pipe over a file does before it talks.
use Rattle.std.proofs.Common.{inl, inr, ℕ, List}
use Rattle.std.specs.Prelude.{Result, Ok, Err, IfErr, IsErrAnd}
use Rattle.sk_disk.specs.Images.{Elapses, Images, Narrows, Same}
use Rattle.sk_log.specs.Reading.{IsDamaged, OnlyRead}
use Rattle.sk_log.specs.declared.fault.LogFault.{LogFault}
use Rattle.sk_log.proofs.OnlyReading.{nothing_read, one_read, read_on}
use Rattle.sk_model.specs.declared.limits.Limits.{Limits}
use Rattle.sk_model.specs.Event.{Step}
use Rattle.sk_model.specs.World.{World, first}
use Rattle.sk_aof.specs.Accepted.{Refuses, Runs}
use Rattle.sk_aof.specs.Piping.{IsOpened, IsReopened, StaysShut}
use Rattle.sk_aof.specs.Stored.{HoldsRun}

pub if_err : {T E : Type 0} (r : Result T E) (P Q : E → Type 0) → ((e : E) → P e → Q e) → IfErr r P → IfErr r Q
if_err (Ok t) P Q f p = p
if_err (Err e) P Q f p = f e p

pub if_err_from : {T E : Type 0} (r : Result T E) {P : E → Type 0} (Q : E → Type 0) → ((e : E) → P e → Q e) → IsErrAnd r P → IfErr r Q
if_err_from (Ok t) Q f p = absurd p
if_err_from (Err e) Q f p = f e p

module _ {D : Type 0} (reads may_leave : D → Images) (moment : D → ℕ) (left_since : D → ℕ → Images) (limits : Limits) where
  -- a call that only reads
  pub one_more : (old new : D) → Narrows (may_leave old) (left_since old (moment old)) → Same (reads old) (reads new) → Narrows (may_leave old) (may_leave new)
      → Elapses (moment old) (moment new) (left_since old) (left_since new) (may_leave new) → OnlyRead reads may_leave moment left_since old new
  one_more old new only same fewer time = one_read reads may_leave moment left_since old old new (nothing_read reads may_leave moment left_since old only) same fewer time

  module _ (old mid : D) (read : OnlyRead reads may_leave moment left_since old mid) where
    held_before : (steps : List Step) → HoldsRun limits steps (reads old) → HoldsRun limits steps (reads mid)
    held_before steps h = record {
      run = h.run;
      entries = h.entries;
      logged = h.logged;
      may = h.may;
      file = h.file;
      there = read.same.forth h.file h.there;
      short = h.short;
      stood = h.stood;
    }

    opened_before : (gate : ℕ) (w : World) (new : D) → IsOpened reads may_leave moment left_since limits mid gate w new → IsOpened reads may_leave moment left_since limits old gate w new
    opened_before gate w new o = record {
      only_read = read_on reads may_leave moment left_since old mid new read o.only_read;
      stored = record {
        entries = o.stored.entries;
        lead = o.stored.lead;
        read = λ c is. o.stored.read c (read.same.forth c is);
        ready = λ c is. o.stored.ready c (read.same.forth c is);
      };
      holds = λ steps h. o.holds steps (held_before steps h);
    }

    pub reopened_before : (store : ℕ × World) (new : D) → IsReopened reads may_leave moment left_since limits mid store new → IsReopened reads may_leave moment left_since limits old store new
    reopened_before store new r = record {
      gate = r.gate;
      world = r.world;
      disk = r.disk;
      opened = opened_before r.gate r.world r.disk r.opened;
      cuts = r.cuts;
      plain = r.plain;
    }

    pub shut_before : (new : D) (why : LogFault) → StaysShut reads may_leave moment left_since limits mid new why → StaysShut reads may_leave moment left_since limits old new why
    shut_before new why (inl (only, room)) = inl (read_on reads may_leave moment left_since old mid new read only, room)
    shut_before new why (inr u) = inr (record {
      gate = u.gate;
      world = u.world;
      disk = u.disk;
      opened = opened_before u.gate u.world u.disk u.opened;
      left = u.left;
      last = u.last;
      stop = u.stop;
    })

    pub damaged_before : (at : ℕ) → IsDamaged Runs Refuses (reads mid) at (first limits) → IsDamaged Runs Refuses (reads old) at (first limits)
    damaged_before at d = record { bodies = d.bodies; state = d.state; ran = d.ran; each = λ c is short. d.each c (read.same.forth c is) short }
