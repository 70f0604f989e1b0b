-- Commands that are done at once, one after another.
use Rattle.std.proofs.Common.{◌≡◌, List, [], ◌∷◌, ◌++◌, Option, None, refl, sym, ap, ◌∙◌, append_assoc, append-nil, subst}
use Rattle.sk_resp.specs.Request.{Command}
use Rattle.sk_resp.specs.declared.reply.Reply.{Reply}
use Rattle.sk_talk.specs.declared.talk_end.Stop.{Stop}
use Rattle.sk_talk.specs.Series.{DoesSome}
use Rattle.sk_talk.specs.Talk.{IsHeard}
use Rattle.sk_talk.proofs.Doing.{does_nothing, does_on, does_one}

module _ {S : Type 0} (does : S → Command → Reply → Option Stop → S → Type 0) where
  pub does_none : (s : S) (commands : List Command) (before : List Reply) → DoesSome does s commands before None s commands before
  does_none s commands before =
      record { done = []; replies = []; front = refl; behind = sym (append-nil before); did = does_nothing does s; heard = λ lost. cc lost }

  -- one command more
  pub does_more : (old mid new : S) (commands left rest : List Command) (before now after : List Reply) (words : Command) (reply : Reply) (ends stop : Option Stop) → DoesSome does old commands before None mid left now
      → left ≡ words ∷ rest → after ≡ now ++ reply ∷ [] → does mid words reply ends new → IsHeard ends → ends ≡ stop → DoesSome does old commands before stop new rest after
  does_more old mid new commands left rest before now after words reply ends stop s is put did heard same = record {
    done = s.done ++ words ∷ [];
    replies = s.replies ++ reply ∷ [];
    front = s.front ∙ ap (λ z. s.done ++ z) is ∙ sym (append_assoc s.done (words ∷ []) rest);
    behind = put ∙ ap (λ z. z ++ reply ∷ []) s.behind ∙ append_assoc before s.replies (reply ∷ []);
    did = does_on does old mid new s.done (words ∷ []) s.replies (reply ∷ []) stop s.did (does_one does mid new words reply stop (subst (λ e. does mid words reply e new) same did));
    heard = subst IsHeard same heard;
  }
