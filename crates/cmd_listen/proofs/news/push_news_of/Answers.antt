use Rattle.cmd_listen.proofs.Terms.{on_ok_weaker}
use Rattle.cmd_listen.proofs.Texts.{three}
use Rattle.cmd_listen.proofs.news.push_news_of.Goals as goal

pub returns : goal.returns
returns c = on_ok_weaker c.push_lead_line.result
    (λ third. three _ _ _ _ _ _ _ c.in_ok-push_source_line.ensures c.in_ok-push_lost_line.ensures
    third)
    c.push_lead_line.ensures
