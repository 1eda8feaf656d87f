pub mod MailReplies
pub mod OpenMails
