pub mod HarmlessScripts
pub mod PrintedTexts
