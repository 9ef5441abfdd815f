mod HarmlessLines
mod CalmRuns
